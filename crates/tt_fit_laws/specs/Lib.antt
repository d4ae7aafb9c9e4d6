pub mod ControlRows
pub mod InstanceRows
