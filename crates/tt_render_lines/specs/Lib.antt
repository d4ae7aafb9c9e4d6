pub mod LayoutTexts
pub mod Outputs
