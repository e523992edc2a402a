pub mod Bounds
pub mod Changes
pub mod Empty
pub mod Filled
pub mod Keeping
pub mod Left
pub mod Members
pub mod Search
pub mod Words
pub mod Yielded
pub mod Below
pub mod Filling
pub mod Firsts
pub mod Listing
pub mod PackedMembers
mod Walk
mod PackedWords
