pub mod CanonicalParts
pub mod Index
pub mod SettledRows
pub mod Trials
pub mod Universe
