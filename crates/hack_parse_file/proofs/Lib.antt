pub mod FewNames
pub mod Lexed
pub mod FilesFollow
pub mod Nameless
pub mod OneTree
pub mod KindOf
pub mod Named
pub mod Room
