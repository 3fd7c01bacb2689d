pub mod Parts
pub mod Places
pub mod Reports
pub mod Statuses
pub mod Types
pub mod inner
