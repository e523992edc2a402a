pub mod Columns
pub mod Joined
