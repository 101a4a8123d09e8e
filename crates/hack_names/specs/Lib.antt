pub mod Declarations
pub mod Inside
pub mod Laws
