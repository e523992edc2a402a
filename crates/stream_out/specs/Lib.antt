pub mod Bytes
pub mod Cursor
pub mod Kept
pub mod Pages
