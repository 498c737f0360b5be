pub mod Cache
pub mod Getblk
pub mod Brelse
pub mod Lawful
pub mod Held
pub mod Fresh
