pub mod BoxLaws
pub mod Boxes
pub mod Defects
pub mod Views
