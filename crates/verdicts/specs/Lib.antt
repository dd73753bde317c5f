pub mod Demands
pub mod Judge
pub mod Named
pub mod Words
