pub mod LabelLaws
pub mod Labels
pub mod Requests
