pub mod AskLaws
pub mod Asks
pub mod DeclState
pub mod PlainMap
pub mod Looks
pub mod NameLaws
pub mod Names
pub mod Picks
