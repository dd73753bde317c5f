pub mod Print
pub mod PrintLaws
pub mod Words
