pub mod DropLaws
pub mod DropCounts
pub mod Picks
