pub mod TableLaws
pub mod PastRows
