pub mod Job
pub mod Refusals
pub mod Costs
pub mod Defects
pub mod Enlarged
pub mod Fitted
pub mod Programs
pub mod Grown
pub mod Layouts
pub mod Made
pub mod Makers
pub mod Measures
pub mod Picture
pub mod Report
pub mod Reported
pub mod Strikes
pub mod Work
pub use Rattle.tt_picture.specs as picture
