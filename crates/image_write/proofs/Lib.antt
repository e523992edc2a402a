pub mod Places
pub mod Taking
mod Paging
mod Cursors
pub mod Heads
mod Mapping
pub mod Done
pub mod Staying
pub mod Naming
