pub mod Chains
pub mod Fallback
pub mod Identifiers
pub mod inner
