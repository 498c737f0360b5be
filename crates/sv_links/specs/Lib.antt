pub mod Arrangement
pub mod Way
pub mod Keeping
