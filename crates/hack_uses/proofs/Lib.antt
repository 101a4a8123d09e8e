pub mod AimLaws
pub mod AssignedBy
pub mod Behind
pub mod Readable
pub mod Scoping
pub mod Stepping
pub mod SuffixForms
pub mod TypedArguments
