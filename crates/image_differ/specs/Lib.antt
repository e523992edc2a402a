pub mod Compares
pub mod Differences
pub mod Headings
pub mod Lines
pub mod Marks
pub mod Readings
pub mod Sides
