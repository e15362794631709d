-- Leaves that have a wanted word are good.
use Rattle.std.proofs.Common.{◌≡◌, ◌↔◌, ℕ, ◌<◌, Bool, List, length, refl}
use Rattle.std.specs.Bool.{IsTrue}
use Rattle.std.proofs.lemmas.Bool.{both_ways}
use Rattle.xs_gram.specs.declared.parts.GItem.TheVariants.{Fixed, Term, Non, Skip}
use Rattle.xs_gram.specs.Grammar.{Grammar}
use Rattle.xs_gram.specs.Sound.{IsBuilt}
use Rattle.xs_order.specs.declared.leaves.Leaves.{Leaves}
use Rattle.xs_order.specs.declared.wanted.Wanted.{Wanted}
use Rattle.xs_order.specs.declared.wanted.Wanted.TheVariants.{EmptyWord, AnyWord}
use Rattle.xs_order.specs.Wanted.{IsWanted, AreWith, is_any}
use Rattle.xs_order.proofs.Deriving.{AreGood}
use Rattle.xs_class.proofs.Lists.{some_length}

-- a fixed word is good exactly where it is wanted
fixed_is_good : (wanted : Wanted) (f : List ℕ) (fixed : Bool) → 0 < length f → fixed ≡ is_any wanted → IsTrue fixed ↔ IsWanted wanted f
fixed_is_good EmptyWord f fixed some is = (λ e. absurd (both_ways fixed is e), λ e. absurd (some_length f some e))
fixed_is_good AnyWord f fixed some is = (λ e. tt, λ e. is)

pub are_good : (g : Grammar) (wanted : Wanted) (l : Leaves) → IsBuilt g → AreWith g wanted l → AreGood g (IsWanted wanted) l
are_good g wanted l built leaves p n (Fixed f) at = fixed_is_good wanted f l.fixed (built.range.words p n f at) leaves.fixed
are_good g wanted l built leaves p n (Term t s) at = leaves.terms.exact t (built.range.terms p n t s at)
are_good g wanted l built leaves p n (Non m s) at = (λ e. tt, λ e. refl)
are_good g wanted l built leaves p n (Skip k) at = leaves.skips.exact k (built.range.skips p n k at)
