pub mod RunLaws
pub mod Laws
pub mod ReadingLaws
