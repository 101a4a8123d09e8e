pub mod Uses
pub mod Chains
pub mod Reading
pub mod Replied
pub mod Settled
pub mod Runs
pub mod Unique
pub mod Told
