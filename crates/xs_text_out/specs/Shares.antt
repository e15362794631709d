-- What a production prints by itself, and at the slots of its items.
use Rattle.std.specs.Prelude.{◌≡◌, ℕ, ◌+◌, ◌<◌, List, [], ◌∷◌, length, get_or}
use Rattle.xs_gram.specs.declared.parts.GItem.{GItem}
use Rattle.xs_gram.specs.declared.parts.GItem.TheVariants.{Fixed, Term, Non, Skip}
use Rattle.xs_gram.specs.Grammar.{Grammar, items, normal_word, slots}
use Rattle.xs_tree.specs.Counts.{capped}
use Rattle.xs_text_out.specs.declared.shares.Shares.{Shares}

-- the length of what an item prints by itself: none, where it has a slot
abbrev pub own_length : Grammar → GItem → ℕ
own_length g (Fixed f) = length f
own_length g (Term t s) = 0
own_length g (Non n s) = 0
own_length g (Skip k) = length (normal_word g k)

-- the length of what items print by themselves
abbrev pub own_lengths : Grammar → List GItem → ℕ
own_lengths g [] = 0
own_lengths g (item ∷ is) = own_length g item + own_lengths g is

-- the length of what is printed at slots
abbrev pub slots_length : (ℕ → List ℕ) → List ℕ → ℕ
slots_length at [] = 0
slots_length at (s ∷ ss) = length (at s) + slots_length at ss

-- for each production what it prints by itself, and the slots of its items
pub record AreShares (g : Grammar) (shares : Shares) : Type 0 where
  pub owns_counted : length shares.owns.items ≡ length g.rules
  pub slots_counted : length shares.slots ≡ length g.rules
  pub owns : (production : ℕ) → production < length g.rules → get_or shares.owns.items production 0 ≡ capped (own_lengths g (items g production))
  pub slots_are : (production : ℕ) → production < length g.rules → get_or shares.slots production [] ≡ slots (items g production)
