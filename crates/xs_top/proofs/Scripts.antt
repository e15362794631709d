-- A script whose lines all spell requests has no line that spells none; and what stops the playing of a script.
use Rattle.std.proofs.Common.{◌≡◌, ℕ, zero, suc, List, [], ◌∷◌, Some, slice_get, subst}
use Rattle.xs_class.specs.declared.side.Side.TheVariants.{Text}
use Rattle.xs_chars.specs.declared.form.Form.TheVariants.{AsIs}
use Rattle.xs_outline.specs.Lines.{text_lines}
use Rattle.xs_script.specs.declared.request.Request.{Request}
use Rattle.xs_script.specs.declared.fault.ScriptFault.{ScriptFault}
use Rattle.xs_script.specs.declared.fault.ScriptFault.TheVariants as S
use Rattle.xs_script.specs.Requests.{Spells, AreSpelt, IsBadAt, IsUnplayed}
use Rattle.xs_top.specs.Documents.{IsDocument}
use Rattle.xs_top.specs.Scripts.{IsNoScript}
use Rattle.xs_top.specs.Stops.{StopsBy, stop_of_script}

none_at : (k : ℕ) (t : List ℕ) → slice_get [] k ≡ Some t → ⊥
none_at k t e = cc

same_line : (u t : List ℕ) → Some u ≡ Some t → u ≡ t
same_line u t e = cc

-- each line of those that are spelt spells a request
spelt_at : (rs : List Request) (ts : List (List ℕ)) (k : ℕ) (t : List ℕ) → AreSpelt rs ts → slice_get ts k ≡ Some t → (r : Request) × Spells r t
spelt_at [] [] k t spelt is = absurd (none_at k t is)
spelt_at [] (u ∷ us) k t spelt is = absurd spelt
spelt_at (r ∷ rs) [] k t spelt is = absurd spelt
spelt_at (r ∷ rs) (u ∷ us) zero t spelt is = (r, subst (λ (x : List ℕ). Spells r x) (same_line u t is) spelt.0)
spelt_at (r ∷ rs) (u ∷ us) (suc k) t spelt is = spelt_at rs us k t spelt.1 is

pub not_bad_script : (script : List ℕ) (line : ℕ) (rs : List Request) → AreSpelt rs (text_lines script) → IsBadAt script line → ⊥
not_bad_script script line rs spelt bad =
    let found = spelt_at rs (text_lines script) bad.before bad.text spelt bad.there in
    bad.bad found.0 found.1

-- characters that are read, and why they are no script
pub script_stops : (bytes script : List ℕ) (e : ScriptFault) → IsDocument Text AsIs [] bytes script → IsUnplayed script e → StopsBy (IsNoScript bytes) (stop_of_script e)
script_stops bytes script (S.ScriptBad line) read bad = record { utf8 = read.utf8; bad = subst (λ (d : List ℕ). IsBadAt d line) read.word bad }
script_stops bytes script S.Memory read bad = tt
