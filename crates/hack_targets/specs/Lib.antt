pub mod AimIn
pub mod inside
