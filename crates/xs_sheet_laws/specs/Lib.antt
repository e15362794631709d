pub mod Regexes
pub mod Grammars
pub mod Meanings
pub mod Sheets
pub mod Pairs
pub mod Laws
pub mod Refusals
pub mod Upgrading
