pub mod Word
pub mod Fill
pub mod Given
pub mod Contract
pub mod Asked
pub mod All
pub mod Words
