pub mod FromParents
pub mod Gathered
pub mod Merging
pub mod OneByOne
pub mod Walking
