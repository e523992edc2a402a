pub mod Answering
pub mod Beginning
pub mod Cases
pub mod Clearing
pub mod Ending
pub mod Facts
pub mod Finding
mod First
pub mod Headers
pub mod Listing
pub mod OwnImage
pub mod Placing
mod Putting
pub mod StepsLeft
pub mod TakingBack
