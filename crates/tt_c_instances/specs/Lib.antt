pub mod VariationLists
pub mod Maps
