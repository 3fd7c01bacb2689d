pub mod Aliases
pub mod Cost
pub mod Refusals
pub mod Whole
pub mod inner
