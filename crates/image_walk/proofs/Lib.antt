pub mod Bits
pub mod FewMaps
pub mod Taking
pub mod Stepping
pub mod Reserve
