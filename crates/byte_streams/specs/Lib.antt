pub mod Calls
pub mod Flushed
pub mod Memory
pub mod Flushes
pub mod Places
pub mod Texts
