mod Alone
mod Classes
mod Directions
mod Lengths
mod Least
mod Members
mod Rows
mod Settling
mod TableLaws
mod TableRows
pub mod CanonicalAgain
pub mod Canonicals
pub mod Maximal
pub mod Negotiating
pub mod Parts
pub mod Readings
pub mod SortedRows
pub mod Subsets
pub mod Universes
pub mod Values
pub mod WithoutVariants
