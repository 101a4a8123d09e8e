pub mod Words
pub mod CallerLemmas
