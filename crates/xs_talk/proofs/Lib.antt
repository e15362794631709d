pub mod Slots
mod Walking
mod Listed
mod Counting
mod Ending
