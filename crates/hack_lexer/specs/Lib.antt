pub mod Bytes
pub mod Forms
pub mod Kinds
pub mod Scan
pub mod Tokens
