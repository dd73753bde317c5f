pub mod Exports
pub mod ExportLaws
