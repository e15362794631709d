-- Marks in the order of their stretches.
use Rattle.std.specs.Prelude.{◌≡◌, ℕ, suc, ◌-◌, ◌<◌, ◌≤◌, List, ◌++◌, Some, false, length, slice_get, unwrap_or, replicate}
use Rattle.std.specs.declared.cmp.Ordering.{Ordering}
use Rattle.std.specs.Ordering.{is_lt, nat_cmp, ordering_then}
use Rattle.xs_forest_laws.specs.declared.span.SpanKey.{SpanKey}

-- by where the labels end, and then by where they begin
abbrev pub compare : SpanKey → SpanKey → Ordering
compare a b = ordering_then (nat_cmp a.end b.end) (nat_cmp a.start b.start)

-- no mark's label is less than that of an earlier mark
abbrev pub AreInOrder : List (SpanKey × ℕ) → Type 0
AreInOrder marks = (i j : ℕ) (x y : SpanKey × ℕ) → i ≤ j → slice_get marks i ≡ Some x → slice_get marks j ≡ Some y → is_lt (compare y.0 x.0) ≡ false

-- each of the first `count` marks ends before the place
abbrev pub EndBefore : List (SpanKey × ℕ) → ℕ → ℕ → Type 0
EndBefore marks count end = (k : ℕ) (x : SpanKey × ℕ) → k < count → slice_get marks k ≡ Some x → x.0.end < end

-- For each place, how many of the first `count` marks end before it, at most; the places go on as far as one of
-- these marks ends.
pub record AreFirsts (marks : List (SpanKey × ℕ)) (count : ℕ) (firsts : List ℕ) : Type 0 where
  pub before : (end first : ℕ) → slice_get firsts end ≡ Some first → EndBefore marks first end
  pub rising : (i j a b : ℕ) → i ≤ j → slice_get firsts i ≡ Some a → slice_get firsts j ≡ Some b → a ≤ b
  pub bounded : (end first : ℕ) → slice_get firsts end ≡ Some first → first ≤ count
  pub ended : EndBefore marks count (length firsts)

-- the places up to `end` have a number: those that had none have k
abbrev pub IsFilled : List ℕ → ℕ → ℕ → List ℕ → Type 0
IsFilled old end k new = new ≡ old ++ replicate (suc end - length old) k

-- how many of `all` marks end before the place
abbrev pub first_of : List ℕ → ℕ → ℕ → ℕ
first_of firsts end all = unwrap_or (slice_get firsts end) all
