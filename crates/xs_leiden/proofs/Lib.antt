pub mod Letters
mod More
