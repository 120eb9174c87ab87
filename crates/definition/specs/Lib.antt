pub mod Formatter
pub mod Act
pub mod Emit
pub mod Arms
pub mod PushToken
pub mod Plain
pub mod Layout
pub mod Demand3
