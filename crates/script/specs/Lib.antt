pub mod Drill
pub mod Grammar
pub mod Reading
pub mod Settings
pub mod Shapes
pub mod Items
pub mod Kinds
pub mod Phrases
