-- What only private functions cite.
pub mod Appended
pub mod Found
pub mod LanguageParts
