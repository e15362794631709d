-- Lists of flags that grow.
use Rattle.std.proofs.Common.{◌≡◌, ◌↔◌, ℕ, ◌+◌, Bool, false, List, [], ◌∷◌, ◌++◌, inl, inr, arith}
use Rattle.std.specs.Bool.{IsTrue}
use Rattle.std.proofs.lemmas.Bool.{cases_lt}
use Rattle.std.proofs.lemmas.List.{get_or_append_left, get_or_push, length_push}
use Rattle.xs_clauses.specs.Made.{AreFlags}

-- one flag more
pub flags_more : (P : ℕ → Type 0) (k : ℕ) (flags : List Bool) (b : Bool) → IsTrue b ↔ P k → AreFlags P k flags → AreFlags P (k + 1) (flags ++ b ∷ [])
flags_more P k flags b exact known = record {
  counted = omega (arith, length_push flags b, known.counted);
  exact = λ n l. elim (cases_lt n k) [
    | inl before ↦ rw (get_or_append_left flags (b ∷ []) false n (omega (arith, known.counted))) (known.exact n before)
    | inr after ↦
        let here : n ≡ k = omega arith in
        rw (here, get_or_push flags b false k known.counted) exact
  ];
}
