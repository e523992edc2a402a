pub mod Same
pub mod Faults
pub mod Checks
pub mod Numbers
