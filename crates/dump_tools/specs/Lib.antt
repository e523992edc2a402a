pub mod Differences
pub mod KeptSlots
pub mod Counts
pub mod Facts
pub mod Texts
