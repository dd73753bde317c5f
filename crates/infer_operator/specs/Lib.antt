pub mod Asks
pub mod Vectors
pub mod Single
pub mod Relations
pub mod Operators
pub mod Words
