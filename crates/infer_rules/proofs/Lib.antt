pub mod Facts
pub mod PanicLaws
pub mod PanicTheorems
pub mod ParlessTheorems
pub mod WidthTheorems
