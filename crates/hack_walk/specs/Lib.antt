pub mod Checks
pub mod NamesKept
pub mod WalkLaws
pub mod inside
