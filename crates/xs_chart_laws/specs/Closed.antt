-- When sets of items are closed, and how far a document is read by them. Throughout `has j c i`
-- says that set j has the item of place c and origin i.
use Rattle.std.specs.Prelude.{◌≡◌, ◌⊎◌, ℕ, suc, ◌<◌, ◌≤◌, List, ◌++◌, length, slice_get, None, Some, Contains, IsTrue}
use Rattle.xs_regex.specs.declared.position.Position.{Position}
use Rattle.xs_regex.specs.Automaton.{HasAt, Leads}
use Rattle.xs_gram.specs.declared.parts.GItem.TheVariants.{Fixed, Non}
use Rattle.xs_gram.specs.declared.parts.GItem.{GItem}
use Rattle.xs_gram.specs.declared.places.Place.{Place}
use Rattle.xs_gram.specs.Grammar.{Grammar, items, IsRuleOf, ItemAt}
use Rattle.xs_gram.specs.Sound.{IsNullable}
use Rattle.xs_gram.specs.Chart.{IsAutomatonOf, Stands}
use Rattle.xs_gram.specs.Places.{at_dot, at_inside}
use Rattle.xs_chart_laws.specs.Reading.{Reads}

-- Whatever an item of the sets leads to is in them: rules of the start at their beginning (starts),
-- rules of a nonterminal before which an item stands (predicts), what is after a terminal or an
-- ignorable that can be empty (passes), the positions of its automaton that the next symbol enters
-- (enters) and goes on to (steps), what is after it at a last position (ends), what is after a
-- fixed word that is read (reads), and what is after a nonterminal of which a whole rule was read
-- (completes).
pub record IsClosed (g : Grammar) (w : List ℕ) (has : ℕ → Place → ℕ → Type 0) : Type 0 where
  pub starts : (p : ℕ) → IsRuleOf g g.start p → has 0 (at_dot p 0) 0
  pub predicts : (p n i j m s q : ℕ) → has j (at_dot p n) i → ItemAt g p n (Non m s) → IsRuleOf g m q → has j (at_dot q 0) j
  pub passes : (p n i j : ℕ) (item : GItem) (a : Position) → has j (at_dot p n) i → ItemAt g p n item → IsAutomatonOf g item a → IsTrue a.nullable → has j (at_dot p (suc n)) i
  pub enters : (p n i j k x : ℕ) (item : GItem) (a : Position) → has j (at_dot p n) i → ItemAt g p n item → IsAutomatonOf g item a → slice_get w j ≡ Some x → Contains a.first k → HasAt a k x → has (suc j) (at_inside p n k) i
  pub steps : (p n i j k m x : ℕ) (item : GItem) (a : Position) → has j (at_inside p n k) i → ItemAt g p n item → IsAutomatonOf g item a → slice_get w j ≡ Some x → Leads a k m → HasAt a m x → has (suc j) (at_inside p n m) i
  pub ends : (p n i j k : ℕ) (item : GItem) (a : Position) → has j (at_inside p n k) i → ItemAt g p n item → IsAutomatonOf g item a → Contains a.last k → has j (at_dot p (suc n)) i
  pub reads : (p n i j k : ℕ) (f : List ℕ) → has j (at_dot p n) i → ItemAt g p n (Fixed f) → Reads w j f k → has k (at_dot p (suc n)) i
  pub completes : (p n i j k m s q : ℕ) → has j (at_dot p n) i → ItemAt g p n (Non m s) → IsRuleOf g m q → has k (at_dot q (length (items g q))) j → has k (at_dot p (suc n)) i

-- The same by what a recogniser does: a completion looks at earlier sets only, and a nonterminal
-- that derives the empty word is passed over.
pub record IsClosedBy (g : Grammar) (w : List ℕ) (has : ℕ → Place → ℕ → Type 0) : Type 0 where
  pub starts : (p : ℕ) → IsRuleOf g g.start p → has 0 (at_dot p 0) 0
  pub predicts : (p n i j m s q : ℕ) → has j (at_dot p n) i → ItemAt g p n (Non m s) → IsRuleOf g m q → has j (at_dot q 0) j
  pub passes : (p n i j : ℕ) (item : GItem) (a : Position) → has j (at_dot p n) i → ItemAt g p n item → IsAutomatonOf g item a → IsTrue a.nullable → has j (at_dot p (suc n)) i
  pub passes_non : (p n i j m s : ℕ) → has j (at_dot p n) i → ItemAt g p n (Non m s) → IsNullable g m → has j (at_dot p (suc n)) i
  pub enters : (p n i j k x : ℕ) (item : GItem) (a : Position) → has j (at_dot p n) i → ItemAt g p n item → IsAutomatonOf g item a → slice_get w j ≡ Some x → Contains a.first k → HasAt a k x → has (suc j) (at_inside p n k) i
  pub steps : (p n i j k m x : ℕ) (item : GItem) (a : Position) → has j (at_inside p n k) i → ItemAt g p n item → IsAutomatonOf g item a → slice_get w j ≡ Some x → Leads a k m → HasAt a m x → has (suc j) (at_inside p n m) i
  pub ends : (p n i j k : ℕ) (item : GItem) (a : Position) → has j (at_inside p n k) i → ItemAt g p n item → IsAutomatonOf g item a → Contains a.last k → has j (at_dot p (suc n)) i
  pub reads : (p n i j k : ℕ) (f : List ℕ) → has j (at_dot p n) i → ItemAt g p n (Fixed f) → Reads w j f k → has k (at_dot p (suc n)) i
  pub completes : (p n i j k m s q : ℕ) → j < k → has j (at_dot p n) i → ItemAt g p n (Non m s) → IsRuleOf g m q → has k (at_dot q (length (items g q))) j → has k (at_dot p (suc n)) i

-- each item of the sets stands
abbrev pub AllStand : Grammar → List ℕ → (ℕ → Place → ℕ → Type 0) → Type 0
AllStand g w has = (c : Place) (i j : ℕ) → has j c i → Stands g w c i j

-- each item that stands is in the sets
abbrev pub HasAllThatStand : Grammar → List ℕ → (ℕ → Place → ℕ → Type 0) → Type 0
HasAllThatStand g w has = (c : Place) (i j : ℕ) → Stands g w c i j → has j c i

-- a whole rule of the start is read, from the front of the document to its end
abbrev pub IsWhole : Grammar → List ℕ → (ℕ → Place → ℕ → Type 0) → Type 0
IsWhole g w has = (p : ℕ) × IsRuleOf g g.start p × has (length w) (at_dot p (length (items g p))) 0

-- From an item of this place in set j the document is read up to place k: no further than j, or by
-- a front of the fixed word that the item stands before.
abbrev pub ReadsTo : Grammar → List ℕ → ℕ → Place → ℕ → Type 0
ReadsTo g w j c k = (k ≡ j) ⊎ ((u : List ℕ) × (rest : List ℕ) × (c.inside ≡ None) × ItemAt g c.rule c.dot (Fixed (u ++ rest)) × Reads w j u k)

-- the document is read up to place k from an item of the sets
abbrev pub IsReached : Grammar → List ℕ → (ℕ → Place → ℕ → Type 0) → ℕ → Type 0
IsReached g w has k = (j : ℕ) × (c : Place) × (i : ℕ) × has j c i × ReadsTo g w j c k

-- k is the last place up to which the document is read
abbrev pub IsFarthest : Grammar → List ℕ → (ℕ → Place → ℕ → Type 0) → ℕ → Type 0
IsFarthest g w has k = (k ≤ length w) × IsReached g w has k × ((m : ℕ) → m ≤ length w → IsReached g w has m → m ≤ k)
