pub mod EndsMade
pub mod Near
pub mod RecordsMade
