pub mod Advice
pub mod Hints
pub mod Kinds
pub mod Laws
pub mod Notes
pub mod Shown
pub mod Signs
