pub mod Scales
pub mod Counts
pub mod Faults
pub mod Worth
pub mod Winning
pub mod Counted
pub mod Counting
