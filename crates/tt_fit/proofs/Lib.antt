mod Ends
pub mod Falling
pub mod Fewer
mod Filling
pub mod GlyphPrograms
pub mod GlyphCosts
pub mod Hinted
pub mod Hintings
mod Leftovers
pub mod Levels
pub mod MadeFor
pub mod Bounds
pub mod Counts
pub mod Originals
pub mod Placing
mod Plain
pub mod Standing
pub mod Unbounded
pub mod WorkApart
mod Refusing
