pub mod Parts
pub mod Suffixes
