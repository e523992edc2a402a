pub mod BlockSteps
pub mod Earlier
pub mod FrameSteps
pub mod ImageSteps
pub mod Putting
pub mod Names
pub mod RunLaws
