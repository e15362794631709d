use Rattle.std.proofs.Common.{◌≡◌, ℕ, Some}
use Rattle.std.specs.Prelude.{slice_get}
use Rattle.xs_coarse.specs.Coarse.{Net}
use Rattle.xs_coarse_net.proofs.covers.no_fragments.Given as goal

abbrev pub invariant-nons : goal.invariant-nons
invariant-nons l = (non : ℕ) (n : Net) → slice_get l.kept.items non ≡ Some (Some n) → ⊥
