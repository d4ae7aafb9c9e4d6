mod Axes
mod Defaults
pub mod Digits
mod Instances
mod Lists
mod Portions
mod Records
mod Regions
mod Rising
mod Shares
mod ShownDigits
mod ShownParts
mod ShownRead
mod Signed
