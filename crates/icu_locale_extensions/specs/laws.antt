-- Functions that equal the definitions, joined to them by laws: what crates above may cite.
pub mod Reader
