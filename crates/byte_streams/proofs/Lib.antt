pub mod Handed
pub mod Taken
pub mod Items
pub mod Joined
