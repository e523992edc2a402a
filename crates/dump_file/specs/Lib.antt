pub mod Dump
pub mod ReadBack
pub mod Reading
pub mod Written
pub mod Fields
