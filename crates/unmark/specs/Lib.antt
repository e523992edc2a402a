pub mod Unmarking
