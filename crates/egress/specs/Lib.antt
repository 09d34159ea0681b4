pub mod Agreements
pub mod Changes
pub mod Ports
pub mod Sendings
pub mod Takings
