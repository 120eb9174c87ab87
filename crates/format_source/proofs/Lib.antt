pub mod Lines
pub mod AfterLine
pub mod Demand3
