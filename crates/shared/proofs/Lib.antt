pub mod Below
pub mod Bytes
pub mod Injective
pub mod Lines
pub mod LittleEndian
pub mod Logic
pub mod Stores
pub mod Value
