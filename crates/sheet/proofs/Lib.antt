pub mod Quantified
pub mod Named
pub mod Failing
pub mod Soundness
pub mod Joining
pub mod Collected
