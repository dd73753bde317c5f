pub mod Page
pub mod Numbered
pub mod Back
