pub mod Cores
pub mod Counted
pub mod Identity
pub mod Listed
pub mod Parts
pub mod Ready
pub mod Runs
