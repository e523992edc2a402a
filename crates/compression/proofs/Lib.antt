pub mod Repeats
pub mod Steps
pub mod Runs
pub mod StoredLaws
pub mod Bits
pub mod Composing
