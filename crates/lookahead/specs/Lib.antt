pub mod Measure
pub mod Answer
pub mod Scan
