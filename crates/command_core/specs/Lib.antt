pub mod Runs
pub mod Parts
pub mod Turns
pub mod Played
pub mod Hibernations
pub mod Resumptions
pub mod Points
