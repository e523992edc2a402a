pub mod FileDisk
pub mod Beyond
