pub mod Ending
pub mod Following
pub mod ForTurns
pub mod Foreaching
pub mod Passing
