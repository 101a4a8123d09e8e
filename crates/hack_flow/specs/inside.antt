pub mod Codes
pub mod ForeachRows
pub mod Rows
