-- Tables of labels from which bits were taken away.
use Rattle.std.specs.Prelude.{◌≡◌, ℕ, true}
use Rattle.xs_coarse.specs.Coarse.{Table, may_meet}

-- the labels stand for the same, and what may meet could meet before
pub record IsParted (old new : Table) : Type 0 where
  pub classes : new.classes ≡ old.classes
  pub fewer : (l k : ℕ) → may_meet new l k ≡ true → may_meet old l k ≡ true
