pub mod Faults
pub mod Findings
pub mod Edits
pub mod Stands
pub mod Inside
