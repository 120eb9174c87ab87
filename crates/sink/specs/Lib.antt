pub mod Sink
pub mod Tail
pub mod Appends
