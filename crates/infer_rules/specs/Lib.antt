pub mod Family
pub mod Inferred
