pub mod DiskState
pub mod Overlaid
pub mod OverlaidLaws
