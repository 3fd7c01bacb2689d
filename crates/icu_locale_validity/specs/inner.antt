-- What only private functions cite.
pub mod Lines
pub mod Marks
pub mod Ones
pub mod Wholes
