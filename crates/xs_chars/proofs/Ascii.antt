-- Texts of ASCII: their bytes are their characters, in each form.
use Rattle.std.proofs.Common.{◌≡◌, ◌<◌, ℕ, List, refl, sym, subst}
use Rattle.std.specs.Prelude.{IsAscii}
use Rattle.std.specs.List.{All}
use Rattle.std.specs.Str.{chars}
use Rattle.std.proofs.lemmas.Str.{chars-IsAscii}
use Rattle.std.proofs.lemmas.Str.Ascii.{All-from_ascii}
use Rattle.unicode_normalization.specs.Forms.{Nfc as composed, Nfd as decomposed}
use Rattle.unicode_normalization.proofs.FormsLemmas.{normalize-ascii}
use Rattle.xs_chars.specs.Text.{in_form}
use Rattle.xs_chars.specs.declared.form.Form.{Form}
use Rattle.xs_chars.specs.declared.form.Form.TheVariants.{AsIs, Nfc, Nfd}

low : (bytes : List ℕ) → IsAscii bytes → All (λ c. c < 128) (chars bytes)
low bytes is = subst (λ (cs : List ℕ). All (λ c. c < 128) cs) (sym (chars-IsAscii bytes is)) (All-from_ascii bytes is)

pub ascii_in_form : (form : Form) (bytes : List ℕ) → IsAscii bytes → chars bytes ≡ in_form form (chars bytes)
ascii_in_form AsIs bytes is = refl
ascii_in_form Nfc bytes is = sym (normalize-ascii composed (chars bytes) (low bytes is))
ascii_in_form Nfd bytes is = sym (normalize-ascii decomposed (chars bytes) (low bytes is))
