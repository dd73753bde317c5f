pub mod ListLaws
pub mod OutcomeLaws
pub mod ParlessLaws
pub mod TermLaws
