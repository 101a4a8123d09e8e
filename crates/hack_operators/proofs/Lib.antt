pub mod Apart
pub mod Asking
pub mod Classes
pub mod Naming
pub mod Operating
pub mod Orders
pub mod Stepping
pub mod Tables
