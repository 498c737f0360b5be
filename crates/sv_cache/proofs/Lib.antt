pub mod Laws
pub mod Kept
pub mod Holder
pub mod New
pub mod Frames
pub mod Fresh
