pub mod FormsOf
pub mod Places
