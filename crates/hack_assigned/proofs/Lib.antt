pub mod Adding
pub mod Chained
pub mod Deeper
pub mod Formed
pub mod Rooted
pub mod Stated
pub mod Suffixed
