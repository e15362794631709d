-- Text that units spell, up to the mark that ends them.
use Rattle.std.proofs.Common.{◌≡◌, ℕ, ◌+◌, List, ◌∷◌, ◌++◌, length, true, Bool}
use Rattle.std.specs.List.{list_all}

-- the begun unit's front and the text are spelt by units, the mark and a rest, and n counts from k on up
-- to the mark, the mark included
pub record IsRead {U : Type 0} (is_unit : U → Bool) (spelt : List U → List ℕ → List ℕ) (mark : ℕ) (before text : List ℕ) (k n : ℕ) : Type 0 where
  pub units : List U
  pub rest : List ℕ
  pub each : list_all is_unit units ≡ true
  pub spells : before ++ text ≡ spelt units (mark ∷ rest)
  pub count : n + length rest ≡ k + length text
