pub mod Files
pub mod Lexemes
pub mod Room
