pub mod Past
pub mod Again
pub mod PastLaws
pub mod Words
