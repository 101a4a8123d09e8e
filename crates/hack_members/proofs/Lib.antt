pub mod HeadForms
pub mod Naming
pub mod Nulls
pub mod Seen
pub mod Stepping
pub mod Turning
