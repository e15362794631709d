-- The UTF-8 of the texts of steps.
use Rattle.std.specs.Prelude.{◌≡◌, ℕ, ◌≤◌, List, length, Some, slice_get, slice_range, encode_utf8_all}
use Rattle.xs_table_out.specs.declared.steps.Steps.{Steps}
use Rattle.xs_table_out.specs.declared.text.Encoding.{Encoding}
use Rattle.xs_table_out.specs.declared.text.Encodings.{Encodings}
use Rattle.xs_table_out.specs.Steps.{text_at}

-- the stretch is the UTF-8 of a word
pub record IsEncoded (word bytes : List ℕ) (encoding : Encoding) : Type 0 where
  pub there : encoding.end ≤ length bytes
  pub is : slice_range bytes encoding.begin encoding.end ≡ encode_utf8_all word

-- the first ones are the UTF-8 of the texts of steps
abbrev pub AreEncodedSoFar : Steps → List ℕ → List Encoding → Type 0
AreEncodedSoFar steps bytes all = (number : ℕ) (encoding : Encoding) → slice_get all number ≡ Some encoding → IsEncoded (text_at steps number) bytes encoding

abbrev pub AreEncoded : Steps → Encodings → Type 0
AreEncoded steps e = AreEncodedSoFar steps e.bytes.items e.all.items
