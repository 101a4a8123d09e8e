pub mod FirstTrees
pub mod FirstUnits
pub mod Functions
