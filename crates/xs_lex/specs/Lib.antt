pub mod Classes
pub mod Units
pub mod Spelling
pub mod Between
pub mod Reading
pub mod Scan
pub mod Laws
-- what other crates' contracts cite
pub use Rattle.xs_lex.specs.Units.{coded, is_scalar, spelt_quoted_unit}
pub use Rattle.xs_lex.specs.Spelling.{IsPattern, IsQuoted, Spells}
pub use Rattle.xs_lex.specs.Reading.{IsSlice, lexeme_of}
