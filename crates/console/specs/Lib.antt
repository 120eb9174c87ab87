pub mod Number
pub mod Replay
