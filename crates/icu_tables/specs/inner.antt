-- What only private functions cite.
pub mod Further
pub mod KeyLaws
pub mod Lent
pub mod Members
pub mod Once
pub mod Reads
pub mod Told
