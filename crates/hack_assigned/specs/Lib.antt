pub mod StmtMeanings
pub mod StmtParts
pub mod inside
