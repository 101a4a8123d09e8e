pub mod Orders
pub mod Rising
pub mod Indexed
pub mod Filed
pub mod FilesMap
pub mod Keyed
pub mod Chosen
pub mod Lawful
