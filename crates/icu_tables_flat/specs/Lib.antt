pub mod Flat
pub mod Form
pub mod inner
pub mod laws
