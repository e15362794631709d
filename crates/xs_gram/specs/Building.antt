-- What a grammar may be built from, and what is built on the way.
use Rattle.std.specs.Prelude.{◌≡◌, ℕ, suc, ◌+◌, ◌<◌, ◌≤◌, ◌^◌, List, [], ◌∷◌, length, map, Some, slice_get, slice_index_or}
use Rattle.xs_regex.specs.declared.regex.Regex.{Regex}
use Rattle.xs_regex.specs.Size.{size, IsBounded}
use Rattle.xs_gram.specs.declared.parts.GItem.{GItem}
use Rattle.xs_gram.specs.declared.parts.GItem.TheVariants.{Fixed, Term, Non, Skip}
use Rattle.xs_gram.specs.declared.parts.RulePart.{RulePart}
use Rattle.xs_gram.specs.declared.parts.Terminal.{Terminal}
use Rattle.xs_gram.specs.declared.parts.SkipPart.{SkipPart}
use Rattle.xs_gram.specs.declared.parts.Ignorable.{Ignorable}
use Rattle.xs_gram.specs.declared.parts.GramParts.{GramParts}
use Rattle.xs_gram.specs.declared.places.Place.{Place}
use Rattle.xs_gram.specs.Grammar.{Grammar, items, slots, symbols_count}
use Rattle.xs_gram.specs.Laws.{IsDistinct, IsNumbered}
use Rattle.xs_gram.specs.Fences.{fence_symbols, spread_items, spread, IsLevel, AvoidsFences}
use Rattle.xs_gram.specs.Sound.{IsAutomaton, IsBuilt}
use Rattle.xs_gram.specs.Places.{at_dot, all_places}

-- P holds of each element
abbrev pub EachOf : {A : Type 0} → (A → Type 0) → List A → Type 0
EachOf P [] = Unit {0}
EachOf P (x ∷ xs) = P x × EachOf P xs

-- what the item names is there, by the numbers of nonterminals, terminals and ignorables, and a
-- fixed word is not empty
abbrev pub NamesThere : ℕ → ℕ → ℕ → GItem → Type 0
NamesThere nons terms skips (Fixed f) = 0 < length f
NamesThere nons terms skips (Term t s) = t < terms
NamesThere nons terms skips (Non n s) = n < nons
NamesThere nons terms skips (Skip k) = k < skips

abbrev pub NamesAreThere : Grammar → GItem → Type 0
NamesAreThere g i = NamesThere g.nons (length g.terms) (length g.skips) i

-- how many items rules have
abbrev pub items_count : List RulePart → ℕ
items_count [] = 0
items_count (r ∷ rs) = length r.items + items_count rs

-- the rule's nonterminal and what its items name are there, no fixed word is empty, and its slots
-- are the numbers from 0 on, each once
pub record IsRuleAmong (nons terms skips : ℕ) (r : RulePart) : Type 0 where
  pub non : r.non < nons
  pub items : EachOf (NamesThere nons terms skips) r.items
  pub slots : IsNumbered (slots r.items)

-- the regex has at most 512 positions, and no greatest count below its least
pub record IsFit (regex : Regex) : Type 0 where
  pub size : size regex ≤ 512
  pub bounded : IsBounded regex

-- The fences of these parts are proper: no symbol stands twice in them, no class of a terminal or an
-- ignorable has one of their symbols, and in each rule they are balanced, each right one closing the
-- innermost open left one, which is of its own pair.
pub record HasProperFences (parts : GramParts) : Type 0 where
  pub once : IsDistinct (fence_symbols parts.fences)
  pub each_term : EachOf (AvoidsFences parts.fences) parts.terms
  pub each_skip : EachOf (λ k. AvoidsFences parts.fences k.regex) parts.skips
  pub each_rule : EachOf (λ r. IsLevel parts.fences (spread_items parts.fences r.items)) parts.rules

-- a grammar can be built of these parts
pub record CanBuild (parts : GramParts) : Type 0 where
  pub start : parts.start < parts.nons
  pub each_rule : EachOf (IsRuleAmong parts.nons (length parts.terms) (length parts.skips)) parts.rules
  pub each_term : EachOf IsFit parts.terms
  pub each_skip : EachOf (λ k. IsFit k.regex) parts.skips
  pub rules : length parts.rules < 65536
  pub terms : length parts.terms < 65536
  pub skips : length parts.skips < 65536
  pub items : items_count parts.rules < 65536
  pub symbols : symbols_count parts.rules < 65536
  pub fences : HasProperFences parts

-- the regex and the normal spelling of an ignorable of a grammar
abbrev pub skip_part : Ignorable → SkipPart
skip_part k = record { regex = k.regex; normal = k.normal }

-- the grammar has exactly these parts
pub record IsOf (parts : GramParts) (g : Grammar) : Type 0 where
  pub start : g.start ≡ parts.start
  pub nons : g.nons ≡ parts.nons
  pub rules : g.rules ≡ parts.rules
  pub terms : map (λ (t : Terminal). t.regex) g.terms ≡ parts.terms
  pub skips : map skip_part g.skips ≡ parts.skips
  pub fences : g.fences ≡ parts.fences

-- the automaton beside the regex is one of it
abbrev pub TermHasAutomaton : Terminal → Type 0
TermHasAutomaton t = IsAutomaton t.regex t.automaton

abbrev pub SkipHasAutomaton : Ignorable → Type 0
SkipHasAutomaton k = IsAutomaton k.regex k.automaton

-- these are the terminals of the regexes, each with its automaton
pub record AreTerminals (regexes : List Regex) (terms : List Terminal) : Type 0 where
  pub all : map (λ (t : Terminal). t.regex) terms ≡ regexes
  pub automata : EachOf TermHasAutomaton terms

-- these are the ignorables of the parts, each with its automaton
pub record AreIgnorables (parts : List SkipPart) (skips : List Ignorable) : Type 0 where
  pub all : map skip_part skips ≡ parts
  pub automata : EachOf SkipHasAutomaton skips

-- the row has where each of that many places before items of a rule stands
pub record AreRowStarts (places : List Place) (p count : ℕ) (row : List ℕ) : Type 0 where
  pub long : length row ≡ count
  pub found : (n : ℕ) → n < count → slice_get places (slice_index_or row n 0) ≡ Some (at_dot p n)

-- that many rows have where the places before the items of their rules stand
pub record AreStarts (g : Grammar) (places : List Place) (count : ℕ) (starts : List (List ℕ)) : Type 0 where
  pub rows : length starts ≡ count
  pub found : (p : ℕ) → p < count → AreRowStarts places p (suc (length (items g p))) (slice_index_or starts p [])

-- a grammar whose places can be listed
pub record IsReady (g : Grammar) : Type 0 where
  pub built : IsBuilt g
  pub names : EachOf (λ r. EachOf (NamesAreThere g) r.items) g.rules
  pub few : length (all_places g) < 2 ^ 32
  pub short : (p : ℕ) → length (spread g p) < 2 ^ 32
