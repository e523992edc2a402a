pub mod FreeFrames
pub mod DataPlaces
pub mod OwnPages
pub mod Listed
pub mod LastTables
pub mod BroughtBack
pub mod SoundTables
