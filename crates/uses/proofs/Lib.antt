mod Forms
mod Lines
mod ValidForms
mod ValidIds
