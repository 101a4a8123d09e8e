pub mod Chaining
pub mod Rest
pub mod Rights
