pub mod CallerLemmas
pub mod Fitting
