pub mod Performances
