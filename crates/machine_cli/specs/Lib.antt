pub mod Checked
pub mod Compared
pub mod Cored
pub mod Drawn
pub mod Freshened
pub mod Made
pub mod Shown
pub mod Foretold
