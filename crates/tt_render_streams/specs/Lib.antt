pub mod CodePoints
pub mod File
pub mod Formed
pub mod Messages
pub mod Putting
pub mod Reading
pub mod Traffic
pub mod Views
pub use Rattle.tt_picture.specs as picture
