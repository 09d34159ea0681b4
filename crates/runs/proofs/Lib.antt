pub mod Underway
pub mod Finished
pub mod Alike
