mod Walks
pub mod Kerned
pub mod LabelLines
pub mod LabelTexts
pub mod Pens
pub mod Quotients
pub mod Stepped
pub mod StepSums
pub mod Texts
