pub mod Rows
pub mod Questions
pub mod QuestionLaws
pub mod Judged
pub mod AnyRoom
pub mod Before
pub mod Given
pub mod QuestionRules
