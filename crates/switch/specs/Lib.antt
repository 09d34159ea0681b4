pub mod Switches
pub mod Answers
pub mod Calls
pub mod Headings
pub mod Admissions
