pub mod NamesFilled
pub mod Reported
pub mod Within
pub mod WrittenIn
pub mod inside
