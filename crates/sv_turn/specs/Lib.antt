pub mod Counted
pub mod Passes
pub mod Steps
pub mod Turning
pub mod Numbers
