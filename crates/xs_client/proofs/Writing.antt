-- The bytes that are written back.
use Rattle.std.proofs.Common.{◌≡◌, ◌∙◌, ℕ, Bool, List, [], ◌∷◌, Some, false, if◌then◌else◌, refl, sym, subst, ap}
use Rattle.std.specs.Prelude.{encode_utf8_all}
use Rattle.std.specs.declared.option.Option.{Option}
use Rattle.std.specs.Io.KnownBytes.{Appends}
use Rattle.std.specs.Str.{IsUtf8, chars}
use Rattle.std.proofs.lemmas.Str.{encodes-chars}
use Rattle.xs_class.specs.declared.side.Side.TheVariants.{Text}
use Rattle.xs_chars.specs.declared.form.Form.TheVariants.{AsIs}
use Rattle.xs_chars.specs.Text.{has_mark, with_mark, without_mark, text_of, text_bytes}
use Rattle.xs_gram.specs.Languages.{Derives}
use Rattle.xs_top.specs.Runs.{IsNormalOf}
use Rattle.xs_client.specs.Runs.{HasNoIgnorable}

-- what was appended to nothing
pub appended_is : (old new : Option (List ℕ)) (written answer : List ℕ) → old ≡ Some [] → new ≡ Some written → Appends old new answer → written ≡ answer
appended_is old new written answer before now appends =
    subst (λ (n : Option (List ℕ)). Appends (Some []) n answer) now (subst (λ (b : Option (List ℕ)). Appends b new answer) before appends)

-- characters that begin with no byte order mark
unmarked : (w : List ℕ) → has_mark w ≡ false → with_mark (without_mark w) ≡ w
unmarked [] none = refl
unmarked (c ∷ w) none =
    subst (λ (b : Bool). with_mark (if b then w else c ∷ w) ≡ c ∷ w) (sym none) (subst (λ (b : Bool). (if b then 65279 ∷ c ∷ w else c ∷ w) ≡ c ∷ w) (sym none) refl)

same_text : (text : List ℕ) → IsUtf8 text → has_mark (chars text) ≡ false → text_bytes (text_of text AsIs) ≡ text
same_text text utf8 none = ap (λ (w : List ℕ). encode_utf8_all w) (unmarked (chars text) none) ∙ encodes-chars text utf8

pub normal_same : (sheet text written : List ℕ) → IsNormalOf sheet Text AsIs text written → HasNoIgnorable sheet text → has_mark (chars text) ≡ false → written ≡ text
normal_same sheet text written n none unmarked =
    n.same (none n.pair n.derivation n.is_pair (subst (λ (w : List ℕ). Derives n.pair.text w n.derivation) n.is_document.word n.derives)) ∙ ap text_bytes n.is_document.word ∙ same_text text n.is_document.utf8 unmarked
