pub mod Filling
pub mod Matching
pub mod Named
pub mod Seeing
pub mod Solving
pub mod WithoutNull
pub mod inside
