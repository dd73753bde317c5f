pub mod Single
pub mod Indexed
pub mod Bound
pub mod Kinds
pub mod Words
