mod Bounds
mod Notes
mod Spans
mod StringSets
