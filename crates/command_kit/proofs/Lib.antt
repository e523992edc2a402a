pub mod Causes
pub mod OnlyRead
