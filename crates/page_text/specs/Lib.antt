pub mod PageText
pub mod PageLeftLaws
pub mod Words
