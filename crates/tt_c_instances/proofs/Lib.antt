pub mod MapAsked
pub mod UnitsFound
