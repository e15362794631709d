-- Each slot that an item of the text side names has a name.
use Rattle.std.specs.Prelude.{ℕ, ◌<◌, List, [], ◌∷◌, length, slice_index_or}
use Rattle.xs_gram.specs.declared.parts.GItem.{GItem}
use Rattle.xs_gram.specs.declared.parts.GItem.TheVariants.{Fixed, Term, Non, Skip}
use Rattle.xs_gram.specs.Grammar.{items}
use Rattle.xs_pair.specs.Grammars.{Pair}

-- the production has a slot of this number
abbrev pub HasSlot : Pair → ℕ → ℕ → Type 0
HasSlot p rule slot = (rule < length p.slots) × (slot < length (slice_index_or p.slots rule []))

-- the slot of the item, if it has one, is one of the production's
abbrev pub IsNamed : Pair → ℕ → GItem → Type 0
IsNamed p rule (Fixed f) = Unit {0}
IsNamed p rule (Term t s) = HasSlot p rule s
IsNamed p rule (Non n s) = HasSlot p rule s
IsNamed p rule (Skip k) = Unit {0}

abbrev pub AreNamed : Pair → ℕ → List GItem → Type 0
AreNamed p rule [] = Unit {0}
AreNamed p rule (item ∷ is) = IsNamed p rule item × AreNamed p rule is

-- the slots of each production's text side have names
abbrev pub HasSlotNames : Pair → Type 0
HasSlotNames p = (rule : ℕ) → rule < length p.text.rules → AreNamed p rule (items p.text rule)
