pub mod Site
pub mod Constants
pub mod SiteLaws
pub mod LentLaws
