pub mod Table
pub mod Words
