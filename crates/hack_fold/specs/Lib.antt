pub mod FromAbove
pub mod Line
pub mod Parents
pub mod Paths
pub mod ShallowMap
pub mod Walked
pub mod inside
