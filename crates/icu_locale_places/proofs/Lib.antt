mod Bytes
mod Grown
mod Heads
mod Once
mod Probed
mod Spans
mod Stopped
mod Told
