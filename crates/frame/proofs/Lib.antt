pub mod Contents
pub mod Ports
