pub mod Bounds
pub mod Boxes
pub mod GapMarks
pub mod GivesWay
mod JoinedLines
pub mod Lines
pub mod Points
pub mod SmallContours
pub mod Tables
pub mod Tests
pub mod Walks
pub mod Ways
