pub mod Tied
pub mod Called
pub mod Admitted
