pub mod Number
pub mod Command
pub mod Meaning
-- what other crates' contracts cite
pub use Rattle.xs_words.specs.Meaning.{HasLines, meant, sheet_meant}
