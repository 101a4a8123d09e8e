pub mod Lifts
pub mod Rows
pub mod Solving
