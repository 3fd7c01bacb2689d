pub mod Cuts
pub mod Decides
pub mod Forms
pub mod Parts
pub mod Same
pub mod Pieces
pub mod Searches
