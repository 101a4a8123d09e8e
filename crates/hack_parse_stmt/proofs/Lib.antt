pub mod StatementsFollow
