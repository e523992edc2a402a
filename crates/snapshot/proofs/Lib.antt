mod Copying
mod Few
pub mod Progress
