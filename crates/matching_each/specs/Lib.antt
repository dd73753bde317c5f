pub mod Every
pub mod EveryLaws
pub mod Premises
pub mod Words
