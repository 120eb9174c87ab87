pub mod Sink
pub mod Sizes
pub mod Over
pub mod Appends
