pub mod Places
pub mod Settings
pub mod Faults
pub mod RowsLemmas
