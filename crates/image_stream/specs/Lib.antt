pub mod Converted
pub mod Plain
pub mod Streamed
