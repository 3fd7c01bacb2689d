pub mod FullNames
pub mod Says
pub mod Squares
pub mod inner
