-- What only private functions cite.
pub mod Added
pub mod Asked
pub mod Known
pub mod Leaders
pub mod Levels
pub mod Made
pub mod Parts
pub mod Spelled
