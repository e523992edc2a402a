pub mod Counting
pub mod Plans
pub mod Reserved
pub mod Walks
pub mod ListPages
pub mod Arranging
pub mod Cycles
pub mod Emitting
pub mod Executing
pub mod Joining
pub mod Loading
pub mod Pending
pub mod Placements
pub mod Relocating
pub mod Sequencing
pub mod Taking
pub mod Walking
pub mod Widening
pub mod Writing
mod Clearing
mod Finishing
mod Keeping
mod Members
mod Moving
mod Placing
pub mod WithData
