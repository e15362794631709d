-- The nonterminals of items.
use Rattle.std.proofs.Common.{◌≡◌, ℕ, zero, suc, List, [], ◌∷◌, arith, Some, slice_get}
use Rattle.std.specs.List.{Contains}
use Rattle.xs_gram.specs.declared.parts.GItem.{GItem}
use Rattle.xs_gram.specs.declared.parts.GItem.TheVariants.{Fixed, Term, Non, Skip}
use Rattle.xs_order.specs.Rules.{nons_of}

-- the nonterminal of an item is among those of the items
pub non_stands : (is : List GItem) (k m s : ℕ) → slice_get is k ≡ Some (Non m s) → Contains (nons_of is) m
non_stands [] k m s e = cc
non_stands (i ∷ is) zero m s e = first i e
  where
    first : (i : GItem) → Some i ≡ Some (Non m s) → Contains (nons_of (i ∷ is)) m
    first (Fixed f) e = cc
    first (Term t u) e = cc
    first (Non n u) e = (0, omega arith, cc)
    first (Skip j) e = cc
non_stands (i ∷ is) (suc k) m s e = later i (non_stands is k m s e)
  where
    later : (i : GItem) → Contains (nons_of is) m → Contains (nons_of (i ∷ is)) m
    later (Fixed f) h = h
    later (Term t u) h = h
    later (Non n u) (j, l, e) = (suc j, omega arith, e)
    later (Skip j) h = h
