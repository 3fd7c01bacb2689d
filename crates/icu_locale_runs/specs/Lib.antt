pub mod Run
pub mod inner
pub mod laws
