pub mod Earlier
pub mod EntryFindings
pub mod SoFar
pub mod Telling
