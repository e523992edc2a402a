pub mod Instructions
pub mod Expansion
pub mod Places
pub mod Stored
pub mod Crc
