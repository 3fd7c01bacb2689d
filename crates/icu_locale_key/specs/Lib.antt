pub mod Filling
pub mod Keys
pub mod Stable
pub mod Whole
pub mod inner
