pub mod Abstraction
pub mod AbstractionTest
pub mod Names
pub mod SheetTest
