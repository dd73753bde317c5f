pub mod Substitution
pub mod Premises
pub mod Matching
pub mod Orders
pub mod MatchWith
pub mod Compatible
