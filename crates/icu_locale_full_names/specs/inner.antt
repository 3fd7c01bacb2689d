-- What only private functions cite.
pub mod Brackets
pub mod Drafts
pub mod Has
pub mod Lent
