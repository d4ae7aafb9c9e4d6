pub mod Stood
pub mod SteppedUnits
pub mod InTheMiddle
pub mod Broken
