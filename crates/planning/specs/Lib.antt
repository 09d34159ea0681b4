pub mod Records
pub mod Schedules
pub mod Sessions
