pub mod Calls
pub mod Core
pub mod Count
pub mod FreeList
pub mod Inodes
pub mod Sample
pub mod Written
