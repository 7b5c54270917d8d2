pub mod Branches
pub mod Turns
pub mod Climb
pub mod Holding
pub mod Policies
pub mod NoneCounted
