pub mod Answers
pub mod Copies
pub mod Writing
pub mod Kept
pub mod Sets
pub mod Steps
