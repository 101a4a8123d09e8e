pub mod Aims
pub mod Codes
pub mod Pieces
