-- Which groups are marked as the pairs are gone through.
use Rattle.std.proofs.Common.{◌≡◌, ◌≢◌, ℕ, suc, ◌+◌, ◌<◌, ◌≤◌, Bool, true, false, length, refl, sym, ap, ◌∙◌, arith, inl, inr}
use Rattle.std.proofs.lemmas.Bool.{cases_eq, cases_lt}
use Rattle.xs_closed.specs.Rows.{Grid, marked, Marks}
use Rattle.xs_meet.specs.Sharing.{Sharing, has_at}

-- the rows before one are those of the sharing, and the others have no marks
pub record IsRelatedBefore (s : Sharing) (count first : ℕ) (z : Grid) : Type 0 where
  pub high : length z.rows ≡ count
  pub wide : z.wide ≡ count
  pub done : (h k : ℕ) → h < first → marked z h k ≡ has_at s h k
  pub none : (h k : ℕ) → first ≤ h → marked z h k ≡ false

-- of one row the first marks are those of the sharing, and there are no others
pub record IsRowBefore (s : Sharing) (count first second : ℕ) (old new : Grid) : Type 0 where
  pub high : length new.rows ≡ count
  pub wide : new.wide ≡ count
  pub done : (k : ℕ) → k < second → marked new first k ≡ has_at s first k
  pub none : (k : ℕ) → second ≤ k → marked new first k ≡ false
  pub others : (h k : ℕ) → h ≢ first → marked new h k ≡ marked old h k
