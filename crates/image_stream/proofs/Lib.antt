pub mod Composing
pub mod Framing
pub mod Listing
pub mod Making
pub mod Starting
pub mod Words
pub mod Writing
