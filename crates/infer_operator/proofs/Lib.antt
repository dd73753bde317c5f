pub mod FamilyLaws
pub mod WalkLaws
pub mod AnswerWays
pub mod SingleLaws
pub mod RelationLaws
pub mod OperatorLaws
