-- Facts for crates above.
pub mod Pieces
