pub mod Kept
pub mod Orders
pub mod Row
pub mod StandsFor
pub mod Started
pub mod Stepped
pub mod StepsLeft
pub mod World
