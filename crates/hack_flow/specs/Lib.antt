pub mod Doings
pub mod Settled
pub mod SettledLaws
pub mod StmtIn
pub mod StmtNames
pub mod inside
