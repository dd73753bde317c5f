pub mod Text
pub mod PrintedLaws
pub mod LeftLaws
pub mod TextLaws
pub mod NewlineLaws
pub mod Words
