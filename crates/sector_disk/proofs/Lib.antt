pub mod SectorLaws
pub mod Padded
pub mod Contents
pub mod Recordings
pub mod Time
pub mod Called
mod Walks
