pub mod Joining
pub mod Runs
pub mod Rising
pub mod Parts
pub mod Quantified
pub mod Ruled
pub mod WrittenWords
pub mod Written
