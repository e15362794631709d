-- The places of a grammar, in the order of their numbers.
use Rattle.std.specs.Prelude.{◌≡◌, ℕ, zero, suc, ◌+◌, ◌<◌, ◌≤◌, ◌^◌, List, [], ◌∷◌, ◌++◌, length, None, Some, slice_get, slice_index_or}
use Rattle.std.specs.declared.option.Option.{Option}
use Rattle.xs_gram.specs.declared.parts.GItem.{GItem}
use Rattle.xs_gram.specs.declared.parts.GItem.TheVariants.{Fixed, Term, Non, Skip}
use Rattle.xs_gram.specs.declared.parts.RulePart.{RulePart}
use Rattle.xs_gram.specs.declared.places.Place.{Place}
use Rattle.xs_gram.specs.Grammar.{Grammar, term_of, skip_of, items, ItemAt}
use Rattle.xs_gram.specs.Fences.{spread}
use Rattle.xs_gram.specs.Spreading.{AreSpreads, ArePartners}
use Rattle.xs_gram.specs.Sound.{IsInRange, IsSmall, IsProper}

-- before item n of rule p, and there inside a terminal or an ignorable at position k
abbrev pub at_dot : ℕ → ℕ → Place
at_dot p n = record { rule = p; dot = n; inside = None }

abbrev pub at_inside : ℕ → ℕ → ℕ → Place
at_inside p n k = record { rule = p; dot = n; inside = Some k }

-- how many positions an item has
abbrev pub positions_of : Grammar → GItem → ℕ
positions_of g (Fixed f) = 0
positions_of g (Term t s) = length (term_of g t).automaton.classes
positions_of g (Non n s) = 0
positions_of g (Skip k) = length (skip_of g k).automaton.classes

-- that many positions of an item, from one on
abbrev pub insides : ℕ → ℕ → ℕ → ℕ → List Place
insides p n k zero = []
insides p n k (suc count) = at_inside p n k ∷ insides p n (k + 1) count

-- the places of a rule from item n on
abbrev pub rule_places : Grammar → ℕ → ℕ → List GItem → List Place
rule_places g p n [] = at_dot p n ∷ []
rule_places g p n (i ∷ is) = at_dot p n ∷ (insides p n 0 (positions_of g i) ++ rule_places g p (n + 1) is)

abbrev pub places_from : Grammar → ℕ → List RulePart → List Place
places_from g p [] = []
places_from g p (r ∷ rs) = rule_places g p 0 r.items ++ places_from g (p + 1) rs

-- all places: rule by rule, item by item, before an item and then inside it
abbrev pub all_places : Grammar → List Place
all_places g = places_from g 0 g.rules

-- the place is one of the grammar's
pub record IsPlace (g : Grammar) (c : Place) : Type 0 where
  pub rule : c.rule < length g.rules
  pub dot : c.dot ≤ length (items g c.rule)
  pub inside : (k : ℕ) → c.inside ≡ Some k → (item : GItem) × ItemAt g c.rule c.dot item × (k < positions_of g item)

-- where the places before item n of rule p begin, by a row for each rule
abbrev pub start_at : List (List ℕ) → ℕ → ℕ → ℕ
start_at starts p n = slice_index_or (slice_index_or starts p []) n 0

-- What a grammar keeps beside its parts: that numbers are in range and its fences proper, the list of
-- its places, where in it those of each item begin, its spread items and the partners of left fences.
pub record IsKept (g : Grammar) (places : List Place) (starts : List (List ℕ)) (spreads : List (List GItem)) (partners : List (List (Option ℕ))) : Type 0 where
  pub range : IsInRange g
  pub small : IsSmall g
  pub listed : places ≡ all_places g
  pub few : length places < 2 ^ 32
  pub rows : length starts ≡ length g.rules
  pub long : (p : ℕ) → p < length g.rules → length (slice_index_or starts p []) ≡ suc (length (items g p))
  pub found : (p n : ℕ) → p < length g.rules → n ≤ length (items g p) → slice_get places (start_at starts p n) ≡ Some (at_dot p n)
  pub proper : IsProper g
  pub short : (p : ℕ) → length (spread g p) < 2 ^ 32
  pub spread_out : AreSpreads g (length g.rules) spreads
  pub partnered : ArePartners g (length g.rules) partners
