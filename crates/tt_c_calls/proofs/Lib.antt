pub mod Entries
pub mod Answered
pub mod AskedTables
pub mod OpenedAt
mod Lines
mod Plain
mod ShortMessages
pub mod TextTaken
pub mod Rows
pub mod LinesDrawn
pub mod LinesStopped
pub mod LineNeeds
pub mod RoomAsked
pub mod RoomLaws
pub mod StrikeLines
pub mod BitmapLists
pub mod LaidOut
pub mod OffsetSteps
pub mod OffsetLaws
pub mod StrikeWanted
pub mod Counted
pub mod CharactersCounted
