pub mod Calls
pub mod Lanes
pub mod Picture
pub mod Telling
pub mod Texts
pub mod Words
