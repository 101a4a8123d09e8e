pub mod Causes
pub mod Pushes
pub mod Memory
pub mod Std
