pub mod Changes
pub mod Entries
pub mod FirstRun
pub mod FreeBits
pub mod Keeping
pub mod Matching
pub mod OneBit
pub mod Ordered
