pub mod Arithmetic
pub mod Laws
pub mod Logic
pub mod Managing
pub mod Pushing
pub mod Stack
