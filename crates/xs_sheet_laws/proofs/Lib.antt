pub mod Other
pub mod Kept
pub mod LooseKept
pub mod Weighed
pub mod Checked
pub mod Alike
pub mod Contents
pub mod Twins
pub mod Sheets
pub mod Fencing
pub mod Pairs
pub mod Failing
pub mod Meant
mod Refusals
pub mod OtherFences
pub mod GainedFences
pub mod Lined
mod Copied
mod ProperFences
pub mod Unfenced
pub mod Upgraded
