pub mod Line
pub mod Row
pub mod Answer
pub mod Steps
