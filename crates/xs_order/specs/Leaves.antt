-- Items that are no nonterminals, of which some are good.
use Rattle.std.specs.Prelude.{◌≡◌, ◌<◌, Bool, true, false, ◌&&◌, List, [], ◌∷◌, length, slice_index_or}
use Rattle.xs_gram.specs.declared.parts.GItem.{GItem}
use Rattle.xs_gram.specs.declared.parts.GItem.TheVariants.{Fixed, Term, Non, Skip}
use Rattle.xs_gram.specs.Grammar.{Grammar}
use Rattle.xs_order.specs.declared.leaves.Leaves.{Leaves}

-- whether the item is good; each nonterminal is
abbrev pub is_good : Leaves → GItem → Bool
is_good l (Fixed f) = l.fixed
is_good l (Term t s) = slice_index_or l.terms.items t false
is_good l (Non n s) = true
is_good l (Skip k) = slice_index_or l.skips.items k false

-- whether all items are good
abbrev pub all_good : Leaves → List GItem → Bool
all_good l [] = true
all_good l (i ∷ is) = is_good l i && all_good l is

-- the terminal or the ignorable has a flag
abbrev pub IsIn : Leaves → GItem → Type 0
IsIn l (Fixed f) = Unit {0}
IsIn l (Term t s) = t < length l.terms.items
IsIn l (Non n s) = Unit {0}
IsIn l (Skip k) = k < length l.skips.items

-- a flag for each terminal and each ignorable
pub record IsFor (g : Grammar) (l : Leaves) : Type 0 where
  pub terms : length l.terms.items ≡ length g.terms
  pub skips : length l.skips.items ≡ length g.skips
