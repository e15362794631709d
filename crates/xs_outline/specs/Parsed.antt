-- Lines as they are read: their numbers are below 2^64.
use Rattle.std.specs.Prelude.{ℕ, suc, ◌<◌, ◌^◌, List}
use Rattle.xs_outline.specs.declared.line.Entry.{Entry as Read}
use Rattle.xs_outline.specs.declared.line.Entry.TheVariants as R
use Rattle.xs_outline.specs.Lines.{Entry, production, leaf_word, Line, SpellsEntry, SpellsLine}
use Rattle.xs_outline.specs.Reading.{IsFirstLine}

abbrev pub entry_meant : Read → Entry
entry_meant (R.Production number) = production number
entry_meant (R.Leaf w) = leaf_word w

abbrev pub IsLowEntry : Entry → Type 0
IsLowEntry (production q) = suc q < 2 ^ 64
IsLowEntry (leaf_word w) = Unit {0}

-- the text is no such entry, and spells no such line
abbrev pub NoEntry : List ℕ → Type 0
NoEntry text = (e : Entry) → IsLowEntry e → SpellsEntry e text → ⊥

abbrev pub NoLine : List ℕ → Type 0
NoLine text = (l : Line) → l.depth < 2 ^ 64 → IsLowEntry l.entry → SpellsLine l text → ⊥

-- the first line of a text spells this line, and rest follows it; or it spells no such line
pub record SpellsFirst (l : Line) (text rest : List ℕ) : Type 0 where
  pub front : List ℕ
  pub first : IsFirstLine text front rest
  pub spells : SpellsLine l front

abbrev pub NoFirst : List ℕ → Type 0
NoFirst text = (front rest : List ℕ) → IsFirstLine text front rest → NoLine front
