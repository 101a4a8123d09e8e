pub mod Environments
pub mod Refinements
pub mod Subjects
