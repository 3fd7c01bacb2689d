-- What only private functions cite.
pub mod Kept
pub mod Notes
pub mod Places
