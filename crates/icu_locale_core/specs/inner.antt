-- What only private functions and invariants cite.
pub mod Class
pub mod Identifiers
pub mod Padded
pub mod Values
pub mod Variants
