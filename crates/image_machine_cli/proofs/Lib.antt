pub mod AnyImage
pub mod Noting
