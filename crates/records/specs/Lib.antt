pub mod Format
pub mod Tables
