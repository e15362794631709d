-- Facts of a grammar that its recogniser asks for: those of its nonterminals, and a row for each place.
use Rattle.std.specs.Prelude.{◌≡◌, ℕ, ◌<◌, ◌≤◌, ◌^◌, ◌↔◌, ◌||◌, Bool, false, true, List, length, map, Option, None, Some, slice_index_or, slice_range, Contains, IsTrue, IfSome}
use Rattle.xs_regex.specs.declared.position.Position.{Position}
use Rattle.xs_gram.specs.declared.parts.GItem.{GItem}
use Rattle.xs_gram.specs.declared.parts.GItem.TheVariants.{Fixed, Term, Non, Skip}
use Rattle.xs_gram.specs.declared.places.Place.{Place}
use Rattle.xs_gram.specs.Grammar.{Grammar, ItemAt}
use Rattle.xs_gram.specs.Places.{at_dot, all_places}
use Rattle.xs_atoms.specs.declared.atoms.Atoms.{Atoms}
use Rattle.xs_atoms.specs.Alphabet.{AreAtoms, atom_of}
use Rattle.xs_order.specs.Order.{AreNullable}
use Rattle.xs_chart_laws.specs.Steps.{next_of, IsBefore, IsAtEnd, IsPassed}
use Rattle.xs_chart_laws.specs.Charts.{IsNumber}
use Rattle.xs_earley.specs.declared.rows.Row.{Row}
use Rattle.xs_earley.specs.declared.rows.Stand.{Stand}
use Rattle.xs_earley.specs.declared.rows.Stand.TheVariants.{AtEnd, AtNon, AtWord, AtTerm, AtSkip}
use Rattle.xs_earley.specs.declared.facts.Facts.{Facts}
use Rattle.xs_earley.specs.Starts.{AreStarts, AreEnds}

-- what stands for a row that is not there
abbrev pub no_row : Row
no_row = record { stand = AtEnd 0; base = 0; next = 0; passes = false }

abbrev pub row_at : List Row → ℕ → Row
row_at rows k = slice_index_or rows k no_row

-- a word may end in an automaton where this position was reached, or before any
abbrev pub MayEnd : Position → Option ℕ → Type 0
MayEnd a None = IsTrue a.nullable
MayEnd a (Some k) = Contains a.last k

-- the word is this part of the symbols, and not empty
pub record IsSpelt (letters : List ℕ) (from end : ℕ) (word : List ℕ) : Type 0 where
  pub some : from < end
  pub within : end ≤ length letters
  pub is : slice_range letters from end ≡ word

-- what the item is
abbrev pub IsKind : List ℕ → GItem → Stand → Type 0
IsKind letters (Fixed f) (AtWord from end) = IsSpelt letters from end f
IsKind letters (Term t s) (AtTerm u) = t ≡ u
IsKind letters (Non m s) (AtNon n) = m ≡ n
IsKind letters (Skip k) (AtSkip h) = k ≡ h
IsKind letters item stand = ⊥

-- what stands at the place: the end of a rule of the nonterminal, or an item
abbrev pub IsStand : Grammar → List ℕ → Place → Stand → Type 0
IsStand g letters c (AtEnd n) = IsAtEnd g c n
IsStand g letters c (AtNon n) = IsBefore g c n
IsStand g letters c (AtWord from end) = (f : List ℕ) × (c.inside ≡ None) × ItemAt g c.rule c.dot (Fixed f) × IsSpelt letters from end f
IsStand g letters c (AtTerm t) = (slot : ℕ) × ItemAt g c.rule c.dot (Term t slot)
IsStand g letters c (AtSkip k) = ItemAt g c.rule c.dot (Skip k)

-- The row of a place: what stands there, the number of the place before the item, that of the place after it,
-- and whether it may be passed over or ended there.
pub record IsRow (g : Grammar) (letters : List ℕ) (c : Place) (row : Row) : Type 0 where
  pub stand : IsStand g letters c row.stand
  pub base : IsNumber g row.base (at_dot c.rule c.dot)
  pub next : (item : GItem) → ItemAt g c.rule c.dot item → IsNumber g row.next (next_of c)
  pub passes : IsTrue row.passes ↔ IsPassed g c

-- a row for each of that many first places
pub record AreRows (g : Grammar) (letters : List ℕ) (count : ℕ) (rows : List Row) : Type 0 where
  pub counted : length rows ≡ count
  pub each : (k : ℕ) (c : Place) → k < count → IsNumber g k c → IsRow g letters c (row_at rows k)

-- the number of the place after the row's item
abbrev pub next_at : Row → ℕ
next_at row = row.next

-- at the end of a rule and before a nonterminal an item leads on within its set
abbrev pub leads_on : Stand → Bool
leads_on (AtEnd n) = true
leads_on (AtNon n) = true
leads_on (AtWord from end) = false
leads_on (AtTerm t) = false
leads_on (AtSkip k) = false

-- an item of the row may lead on within its set: also where it may be passed over
abbrev pub acts_at : Row → Bool
acts_at row = row.passes || leads_on row.stand

-- all of them
pub record AreFacts (g : Grammar) (facts : Facts) : Type 0 where
  pub nulls : AreNullable g facts.nulls
  pub starts : AreStarts g (length g.rules) facts.starts.items
  pub ends : AreEnds g (length g.rules) facts.ends.items
  pub rows : AreRows g facts.letters.items (length (all_places g)) facts.rows.items
  pub nexts : facts.nexts.items ≡ map next_at facts.rows.items
  pub acts : facts.acts.items ≡ map acts_at facts.rows.items
  pub few : length (all_places g) < 2 ^ 32
  pub letters_few : length facts.letters.items < 2 ^ 63
  pub atoms : IfSome facts.atoms (AreAtoms g)

-- the grammar has atoms
abbrev pub HasAtoms : Facts → Type 0
HasAtoms facts = (atoms : Atoms) × (facts.atoms ≡ Some atoms)

-- the symbol's atom, where the grammar has atoms
abbrev pub IsAtom : Facts → ℕ → ℕ → Type 0
IsAtom facts s atom = (atoms : Atoms) → facts.atoms ≡ Some atoms → atom ≡ atom_of atoms s
