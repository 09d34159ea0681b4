pub mod Classes
pub mod Refusals
pub mod Numbers
pub mod Frames
