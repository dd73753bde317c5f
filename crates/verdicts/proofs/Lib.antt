pub mod JudgeLaws
pub mod NamedLaws
