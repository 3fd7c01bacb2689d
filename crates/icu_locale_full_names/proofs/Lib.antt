mod Adding
mod Bare
mod Giving
mod Joining
mod Silence
mod Spans
mod Unbracketed
