pub mod Faults
pub mod LayerWords
