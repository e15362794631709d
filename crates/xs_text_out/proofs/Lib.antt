pub mod Sharing
pub mod Words
mod Counting
mod Laying
mod Walking
