pub mod Turns
pub mod Gauges
pub mod Statement
