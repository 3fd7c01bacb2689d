-- What only private functions cite.
pub mod Counted
pub mod Still
pub mod Walked
