pub mod Aims
pub mod SubParts
pub mod inside
