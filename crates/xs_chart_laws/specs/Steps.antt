-- What an item leads to, by its place. As in Closed, `has j c i` says that set j has the item of
-- place c and origin i.
use Rattle.std.specs.Prelude.{◌≡◌, ◌⊎◌, ℕ, suc, ◌<◌, List, length, slice_get, None, Some, Contains, IsTrue}
use Rattle.std.specs.declared.option.Option.{Option}
use Rattle.xs_regex.specs.declared.position.Position.{Position}
use Rattle.xs_regex.specs.Automaton.{HasAt, Leads}
use Rattle.xs_gram.specs.declared.parts.GItem.{GItem}
use Rattle.xs_gram.specs.declared.parts.GItem.TheVariants.{Fixed, Non}
use Rattle.xs_gram.specs.declared.places.Place.{Place}
use Rattle.xs_gram.specs.Grammar.{Grammar, items, IsRuleOf, ItemAt}
use Rattle.xs_gram.specs.Sound.{IsNullable}
use Rattle.xs_gram.specs.Chart.{IsAutomatonOf}
use Rattle.xs_gram.specs.Places.{at_dot, at_inside}
use Rattle.xs_chart_laws.specs.Reading.{Reads}

-- the place after the item
abbrev pub next_of : Place → Place
next_of c = at_dot c.rule (suc c.dot)

-- the place stands before the nonterminal
abbrev pub IsBefore : Grammar → Place → ℕ → Type 0
IsBefore g c non = (c.inside ≡ None) × (slot : ℕ) × ItemAt g c.rule c.dot (Non non slot)

-- the place stands at the end of a rule of the nonterminal
abbrev pub IsAtEnd : Grammar → Place → ℕ → Type 0
IsAtEnd g c non = (c.inside ≡ None) × (c.dot ≡ length (items g c.rule)) × IsRuleOf g non c.rule

-- the place stands before, or inside, a terminal or an ignorable with this automaton
abbrev pub HasAutomaton : Grammar → Place → Position → Type 0
HasAutomaton g c a = (item : GItem) × ItemAt g c.rule c.dot item × IsAutomatonOf g item a

-- the item can be passed over, or ended where the place is inside it
abbrev pub IsPassed : Grammar → Place → Type 0
IsPassed g c =
    ((non : ℕ) × IsBefore g c non × IsNullable g non) ⊎
    ((a : Position) × HasAutomaton g c a × (((c.inside ≡ None) × IsTrue a.nullable) ⊎ ((k : ℕ) × (c.inside ≡ Some k) × Contains a.last k)))

-- the automaton goes by the symbol to position k, from its start or from a position
abbrev pub GoesBy : Position → Option ℕ → ℕ → ℕ → Type 0
GoesBy a None x k = Contains a.first k × HasAt a k x
GoesBy a (Some h) x k = Leads a h k × HasAt a k x

-- from the place in set j the document is read to place d in set k: by one symbol inside a terminal
-- or an ignorable, or by a fixed word
abbrev pub Arrives : Grammar → List ℕ → ℕ → Place → ℕ → Place → Type 0
Arrives g w j c k d =
    ((k ≡ suc j) × (x : ℕ) × (slice_get w j ≡ Some x) × (a : Position) × HasAutomaton g c a × (m : ℕ) × GoesBy a c.inside x m × (d ≡ at_inside c.rule c.dot m)) ⊎
    ((f : List ℕ) × (c.inside ≡ None) × ItemAt g c.rule c.dot (Fixed f) × Reads w j f k × (d ≡ next_of c))

-- all that the item of place c and origin i in set j leads to there is there
pub record IsSettled (g : Grammar) (has : ℕ → Place → ℕ → Type 0) (j : ℕ) (c : Place) (i : ℕ) : Type 0 where
  pub passed : IsPassed g c → has j (next_of c) i
  pub called : (non q : ℕ) → IsBefore g c non → IsRuleOf g non q → has j (at_dot q 0) j
  pub completed : (non : ℕ) (d : Place) (o : ℕ) → IsAtEnd g c non → i < j → has i d o → IsBefore g d non → has j (next_of d) o
