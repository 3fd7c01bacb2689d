-- Facts about the definitions, with their proofs: what crates above may cite.
pub mod Counts
pub mod LaterEnds
pub mod Lists
pub mod Places
pub mod Runs
