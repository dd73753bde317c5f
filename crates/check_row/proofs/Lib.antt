pub mod SingleLaws
pub mod IndexedLaws
pub mod BinderLaws
pub mod KindLaws
