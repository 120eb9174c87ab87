pub mod Space
pub mod Between
pub mod Answer
