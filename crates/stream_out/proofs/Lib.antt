mod Kept
mod Pieces
mod Streams
