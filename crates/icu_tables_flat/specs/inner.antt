-- What walks over the lists of entries decide, and the parts that a value holds.
pub mod Views
pub mod Walks
