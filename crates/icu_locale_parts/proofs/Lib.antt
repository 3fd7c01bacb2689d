mod Columns
mod Joins
mod Plain
mod Tabs
