pub mod Bits
pub mod Entries
pub mod Extents
pub mod Kept
pub mod KeptMap
pub mod Runs
pub mod Table
