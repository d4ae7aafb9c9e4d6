pub mod LabelInk
pub mod GrownLaws
