pub mod Characters
mod Ascii
