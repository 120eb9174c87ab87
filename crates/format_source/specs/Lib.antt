pub mod Source
pub mod Steps
pub mod Demand3
