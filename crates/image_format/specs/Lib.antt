pub mod AreaKind
pub mod Counts
pub mod MapPages
pub mod Writer
