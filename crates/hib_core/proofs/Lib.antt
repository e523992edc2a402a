pub mod Cases
pub mod Plain
pub mod Facts
pub mod Syncing
pub mod Writing
pub mod Marking
pub mod Undoing
pub mod Stepping
pub mod BeginTables
pub mod BeginImage
pub mod BeginRefusals
pub mod BeginRows
mod SettleBegin
mod SettleRows
pub mod Leaving
pub mod Keeping
mod WakingCases
mod WakingPlain
pub mod WakingRows
