-- Facts about the definitions, with their proofs: what crates above may cite.
pub mod Listed
