pub mod CompatibleLaws
pub mod Examples
pub mod MatchWithLaws
pub mod MatchingLaws
pub mod MatchingOrders
pub mod MatchingTheorems
pub mod PremiseLaws
pub mod SubstitutionLaws
