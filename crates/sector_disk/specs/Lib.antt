pub mod Sectors
pub mod ContentLaws
pub mod Calls
pub mod Called
pub mod MemDisk
pub mod Recorded
pub mod RecordedLaws
