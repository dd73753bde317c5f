pub mod Contract
pub mod Met
pub mod Compared
pub mod Way
pub mod Words
