pub mod Keeps
pub mod Totals
pub mod Numbers
