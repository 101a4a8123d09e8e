pub mod Files
pub mod Script
