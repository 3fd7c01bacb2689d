-- Facts about the definitions, with their proofs: what crates above may cite.
pub mod InversionLists
pub mod Marks
pub mod Requests
pub mod SortedMaps
