pub mod Scan
pub mod LookBack
pub mod Eight
