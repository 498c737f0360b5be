pub mod Queue
pub mod Keeping
