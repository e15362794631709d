pub mod Attributes
pub mod Digits
pub mod Fault
pub mod Marks
pub mod Seen
pub mod Sorted
pub mod State
pub mod Values
