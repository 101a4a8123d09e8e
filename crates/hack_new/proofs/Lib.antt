pub mod Constructing
pub mod LiftedNames
pub mod Making
pub mod Naming
pub mod Reporting
pub mod Rises
pub mod Stepping
pub mod Wording
