-- Leaves of derivations that have a wanted word: the empty one, or any.
use Rattle.std.specs.Prelude.{◌≡◌, ℕ, Bool, true, false, List, [], length}
use Rattle.xs_clauses.specs.Made.{AreFlags}
use Rattle.xs_gram.specs.Grammar.{Grammar, IsTermWord, IsSkipWord}
use Rattle.xs_gram.specs.Derivations.{Parts, done, fixed, leaf, skip, sub, Derivation, Fits}
use Rattle.xs_order.specs.declared.leaves.Leaves.{Leaves}
use Rattle.xs_order.specs.declared.wanted.Kind.{Kind}
use Rattle.xs_order.specs.declared.wanted.Kind.TheVariants.{Terminals, Ignorables}
use Rattle.xs_order.specs.declared.wanted.Wanted.{Wanted}
use Rattle.xs_order.specs.declared.wanted.Wanted.TheVariants.{EmptyWord, AnyWord}

-- the word is wanted
abbrev pub IsWanted : Wanted → List ℕ → Type 0
IsWanted EmptyWord w = w ≡ []
IsWanted AnyWord w = Unit {0}

-- whether any word is wanted, and so each fixed word
abbrev pub is_any : Wanted → Bool
is_any EmptyWord = false
is_any AnyWord = true

-- how many leaves of the kind there are
abbrev pub count_of : Grammar → Kind → ℕ
count_of g Terminals = length g.terms
count_of g Ignorables = length g.skips

-- the word is one of the leaf of this kind and number
abbrev pub IsWordOf : Grammar → Kind → ℕ → List ℕ → Type 0
IsWordOf g Terminals k w = IsTermWord g k w
IsWordOf g Ignorables k w = IsSkipWord g k w

-- the leaf has a wanted word
abbrev pub HasWanted : Grammar → Kind → Wanted → ℕ → Type 0
HasWanted g kind wanted k = (w : List ℕ) × IsWordOf g kind k w × IsWanted wanted w

-- the good leaves are those that have a wanted word
pub record AreWith (g : Grammar) (wanted : Wanted) (l : Leaves) : Type 0 where
  pub fixed : l.fixed ≡ is_any wanted
  pub terms : AreFlags (HasWanted g Terminals wanted) (length g.terms) l.terms.items
  pub skips : AreFlags (HasWanted g Ignorables wanted) (length g.skips) l.skips.items

-- W holds of each word of a fixed word, a terminal or an ignorable in the parts
abbrev pub AllLeaves : (List ℕ → Type 0) → Parts → Type 0
AllLeaves W done = Unit {0}
AllLeaves W (fixed u ps) = W u × AllLeaves W ps
AllLeaves W (leaf u ps) = W u × AllLeaves W ps
AllLeaves W (skip u ps) = W u × AllLeaves W ps
AllLeaves W (sub q qs ps) = AllLeaves W qs × AllLeaves W ps

-- the nonterminal has a derivation with such words alone
abbrev pub IsDerived : Grammar → (List ℕ → Type 0) → ℕ → Type 0
IsDerived g W n = (d : Derivation) × Fits g n d × AllLeaves W d.parts
