pub mod FaceLines
pub mod Variations
