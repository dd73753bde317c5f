pub mod Indexed
pub mod Terms
