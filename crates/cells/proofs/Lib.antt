pub mod Drained
pub mod Queued
pub mod Granting
