pub mod Few
pub mod Headings
pub mod Listing
pub mod Opening
pub mod Readying
pub mod Sides
pub mod Turning
