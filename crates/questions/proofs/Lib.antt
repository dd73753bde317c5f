pub mod ApplyLaws
pub mod GivenLaws
pub mod MatchLaws
pub mod WordLaws
