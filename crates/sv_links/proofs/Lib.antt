pub mod Times
pub mod Told
pub mod Runs
pub mod Links
pub mod Kept
pub mod Walk
