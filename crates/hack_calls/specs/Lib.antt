pub mod CallLaws
pub mod Named
pub mod Solved
pub mod inside
