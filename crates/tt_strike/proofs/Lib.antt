pub mod Characters
mod Drawn
pub mod Telling
pub mod Stopped
pub mod Setting
pub mod Caches
pub mod Textless
pub mod Made
pub mod Enlarged
pub mod Fitted
pub mod Costed
pub mod OneLine
pub mod Placed
pub mod Stepped
mod Counts
mod Limited
mod Reported
mod Seated
mod Cleared
pub mod TextSteps
mod Pens
mod Unkerned
pub mod FirstShape
