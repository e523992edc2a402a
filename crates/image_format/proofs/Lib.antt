pub mod BadPages
pub mod SixNames
pub mod Entries
