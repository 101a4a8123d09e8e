pub mod Statuses
pub mod Commands
pub mod Session
pub mod Outcome
pub mod Running
pub mod Told
