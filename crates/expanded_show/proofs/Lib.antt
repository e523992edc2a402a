pub mod Blocks
pub mod Leading
pub mod Standing
