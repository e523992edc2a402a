pub mod Free
pub mod DataPages
pub mod Listing
pub mod Restored
pub mod LastReply
