pub mod GateLists
pub mod Loads
pub mod Parities
pub mod Alternation
pub mod Places
