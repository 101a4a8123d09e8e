pub mod DeclarationsFollow
pub mod MembersFollow
pub mod SignaturesFollow
