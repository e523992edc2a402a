pub mod LimitLines
pub mod Loads
pub mod Makes
pub mod FaultLines
pub mod Given
