-- What private functions alone cite.
pub mod Parts
pub mod Words
