pub mod Agreeing
pub mod NextFrames
pub mod SameHardware
pub mod Kept
pub mod Images
pub mod Owners
pub mod PageCounts
pub mod Seen
