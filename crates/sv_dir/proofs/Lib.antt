pub mod NameCounts
pub mod PathLemmas
