-- Facts about the definitions, with their proofs.
pub mod CommandWords
pub mod Expanders
pub mod Forms
pub mod Grammar
pub mod Parts
pub mod Words
