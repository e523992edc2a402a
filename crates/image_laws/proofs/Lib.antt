pub mod Decoding
pub mod ImageBlocks
pub mod NumberWords
pub mod Performing
pub mod Resuming
pub mod Images
