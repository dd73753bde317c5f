pub mod IndexedLaws
pub mod TermLaws
pub mod RowLaws
