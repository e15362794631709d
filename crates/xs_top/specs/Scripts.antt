-- What is answered to the bytes of an edit script.
use Rattle.std.specs.Prelude.{ℕ, List}
use Rattle.std.specs.Str.{IsUtf8}
use Rattle.xs_chars.specs.declared.form.Form.TheVariants.{AsIs}
use Rattle.xs_chars.specs.Text.{text_of}
use Rattle.xs_outline.specs.Lines.{text_lines}
use Rattle.xs_pair.specs.Grammars.{Pair}
use Rattle.xs_script.specs.declared.request.Request.{Request}
use Rattle.xs_script.specs.Requests.{AreSpelt, IsBadAt}
use Rattle.xs_script.specs.Playing.{IsPlayed}
use Rattle.xs_talk.specs.declared.outcome.Outcome.{Outcome}
use Rattle.xs_talk.specs.declared.outcome.Outcome.TheVariants.{ScriptBad}
use Rattle.xs_top.specs.Documents.{IsNoText}

-- the bytes are UTF-8, and each line of their characters, as they are, spells a request
pub record IsScript (bytes : List ℕ) : Type 0 where
  pub utf8 : IsUtf8 bytes
  pub requests : List Request
  pub spelt : AreSpelt requests (text_lines (text_of bytes AsIs))

-- the bytes are UTF-8, and the answer that of the script which is their characters
pub record IsScriptPlayed (p : Pair) (bytes answer : List ℕ) : Type 0 where
  pub utf8 : IsUtf8 bytes
  pub played : IsPlayed p (text_of bytes AsIs) answer

-- the bytes are UTF-8, and this line of their characters is the first that spells no request
pub record IsBadScript (bytes : List ℕ) (line : ℕ) : Type 0 where
  pub utf8 : IsUtf8 bytes
  pub bad : IsBadAt (text_of bytes AsIs) line

-- why a script is not answered
abbrev pub IsNoScript : List ℕ → Outcome → Type 0
IsNoScript bytes (ScriptBad line) = IsBadScript bytes line
IsNoScript bytes o = IsNoText bytes o
