pub mod RowList
pub mod KindNumbers
pub mod Checking
pub mod Sound
pub mod Passed
pub mod Reported
