pub mod Wanting
pub mod inside
