pub mod Moments
pub mod MomentLaws
pub mod LogDisk
