mod Boxed
mod Lines
mod Stamps
mod Tested
