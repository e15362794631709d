pub mod Text
pub mod Laws
-- what other crates' contracts cite
pub use Rattle.xs_chars.specs.Text.{AreCharacters, has_mark, text_bytes}
