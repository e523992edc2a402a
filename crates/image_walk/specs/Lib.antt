pub mod BlockSets
pub mod Names
pub mod Taken
pub mod Walking
