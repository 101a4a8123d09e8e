pub mod Operands
pub mod Seen
pub mod inside
