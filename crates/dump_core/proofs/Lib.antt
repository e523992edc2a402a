pub mod Loads
pub mod PageRuns
pub mod Pieces
pub mod RunLaws
