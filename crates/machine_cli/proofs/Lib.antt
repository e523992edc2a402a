pub mod Ending
pub mod Foretold
pub mod Pictures
pub mod Unread
pub mod Foretelling
