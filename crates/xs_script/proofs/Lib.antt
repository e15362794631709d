pub mod Answered
pub mod Drafts
pub mod Playings
pub mod Requests
pub mod Words
