pub mod Cases
pub mod Entries
pub mod Grids
pub mod Places
