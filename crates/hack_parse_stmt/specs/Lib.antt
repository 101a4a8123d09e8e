pub mod Nesting
pub mod Statements
