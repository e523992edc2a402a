pub mod Findings
pub mod Objects
pub mod Pieces
pub mod Values
