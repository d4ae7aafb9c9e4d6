pub mod Files
pub mod Calls
pub mod Answered
pub mod Faces
pub mod Mapped
