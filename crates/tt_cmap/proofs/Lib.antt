pub mod Firsts
pub mod Halves
pub mod PlainUnits
mod RomanTable
mod UnitSteps
pub mod UnitLaws
pub mod WideWhole
pub mod Whole
pub mod WithoutGlyphs
