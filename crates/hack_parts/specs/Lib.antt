pub mod ExprIn
pub mod ExprMeanings
pub mod Forms
pub mod PartLaws
pub mod PartNames
pub mod Parts
pub mod UseNames
