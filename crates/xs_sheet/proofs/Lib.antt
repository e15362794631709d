pub mod KindLaws
pub mod ContentLaws
pub mod Complete
mod Sound
mod Whole
pub mod Pieced
mod Ending
mod Verdict
mod Strings
mod Spaced
pub mod Escapes
mod Lexed
mod Sources
mod Renewed
mod ReadBack
pub mod Gained
pub mod Readable
