pub mod Page
pub mod Path
