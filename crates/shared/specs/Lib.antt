pub mod Numbers
pub mod Bytes
pub mod Lines
pub mod Report
