pub mod Ended
pub mod Grouping
pub mod Keeping
pub mod OneLine
pub mod Texts
