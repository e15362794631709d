-- What building a grammar gives, and when a grammar is sound.
use Rattle.std.specs.Prelude.{◌≡◌, ◌≢◌, ◌↔◌, ℕ, ◌<◌, ◌≤◌, List, [], length}
use Rattle.xs_regex.specs.declared.regex.Regex.{Regex}
use Rattle.xs_regex.specs.declared.position.Position.{Position}
use Rattle.xs_regex.specs.Matches.{Matches}
use Rattle.xs_regex.specs.Automaton.{Accepts, IsWellFormed, EachEnds}
use Rattle.xs_regex.specs.Links.{IsGlushkov}
use Rattle.xs_regex.specs.Size.{size, sets, IsBounded, HasMembers}
use Rattle.xs_gram.specs.declared.parts.GItem.{GItem}
use Rattle.xs_gram.specs.declared.parts.GItem.TheVariants.{Fixed, Term, Non, Skip}
use Rattle.xs_gram.specs.Grammar.{Grammar, rule_of, term_of, skip_of, items, IsRuleOf, ItemAt, IsTermWord, IsSkipWord, symbols_count}
use Rattle.xs_gram.specs.Derivations.{Derivation, Fits, yield}
use Rattle.xs_gram.specs.Fences.{fence_symbols, spread, IsLevel, AvoidsFences}
use Rattle.xs_gram.specs.Laws.{IsDistinct, HasNumberedSlots}

-- the automaton is one of the regex: it accepts exactly what the regex matches, and where no class
-- is empty each of its positions can be gone on from to a last one; its classes are those of the
-- regex, those of a repetition once for each copy, and its positions are linked as in Glushkov's
-- construction
pub record IsAutomaton (regex : Regex) (a : Position) : Type 0 where
  pub accepts : (w : List ℕ) → Matches regex w ↔ Accepts a w
  pub formed : IsWellFormed a
  pub positions : length a.classes ≡ size regex
  pub classes : a.classes ≡ sets regex
  pub links : IsGlushkov regex a
  pub ends : HasMembers regex → EachEnds a

-- the numbers that items name are there, and no fixed word is empty
pub record IsInRange (g : Grammar) : Type 0 where
  pub start : g.start < g.nons
  pub rules : (p : ℕ) → p < length g.rules → (rule_of g p).non < g.nons
  pub terms : (p n t s : ℕ) → ItemAt g p n (Term t s) → t < length g.terms
  pub nons : (p n m s : ℕ) → ItemAt g p n (Non m s) → m < g.nons
  pub skips : (p n k : ℕ) → ItemAt g p n (Skip k) → k < length g.skips
  pub words : (p n : ℕ) (f : List ℕ) → ItemAt g p n (Fixed f) → 0 < length f

-- rules, the items of each, terminals, ignorables, and the symbols of all fixed words can be counted
-- by 16 bits
pub record IsSmall (g : Grammar) : Type 0 where
  pub rules : length g.rules < 65536
  pub items : (p : ℕ) → length (items g p) < 65536
  pub terms : length g.terms < 65536
  pub skips : length g.skips < 65536
  pub symbols : symbols_count g.rules < 65536

-- the regexes have at most 512 positions, no count out of order, and their automata beside them
pub record HasAutomata (g : Grammar) : Type 0 where
  pub terms : (t : ℕ) → t < length g.terms → IsAutomaton (term_of g t).regex (term_of g t).automaton
  pub skips : (k : ℕ) → k < length g.skips → IsAutomaton (skip_of g k).regex (skip_of g k).automaton
  pub terms_bounded : (t : ℕ) → t < length g.terms → (size (term_of g t).regex ≤ 512) × IsBounded (term_of g t).regex
  pub skips_bounded : (k : ℕ) → k < length g.skips → (size (skip_of g k).regex ≤ 512) × IsBounded (skip_of g k).regex

-- The fences are proper: no symbol stands twice in them, no class of a terminal or an ignorable has
-- one of their symbols, and in each rule they are balanced, each right one closing the innermost
-- open left one, which is of its own pair.
pub record IsProper (g : Grammar) : Type 0 where
  pub once : IsDistinct (fence_symbols g.fences)
  pub terms : (t : ℕ) → t < length g.terms → AvoidsFences g.fences (term_of g t).regex
  pub skips : (k : ℕ) → k < length g.skips → AvoidsFences g.fences (skip_of g k).regex
  pub level : (p : ℕ) → IsLevel g.fences (spread g p)

-- what building a grammar gives
pub record IsBuilt (g : Grammar) : Type 0 where
  pub range : IsInRange g
  pub small : IsSmall g
  pub slots : HasNumberedSlots g
  pub automata : HasAutomata g
  pub proper : IsProper g

-- the nonterminal derives the empty word
abbrev pub IsNullable : Grammar → ℕ → Type 0
IsNullable g n = (d : Derivation) × Fits g n d × (yield d ≡ [])

-- the nonterminal derives a word
abbrev pub IsProductive : Grammar → ℕ → Type 0
IsProductive g n = (d : Derivation) × Fits g n d

-- the item can stand for the empty word
abbrev pub IsNullableItem : Grammar → GItem → Type 0
IsNullableItem g (Fixed f) = f ≡ []
IsNullableItem g (Term t s) = IsTermWord g t []
IsNullableItem g (Non n s) = IsNullable g n
IsNullableItem g (Skip k) = IsSkipWord g k []

-- a rule of n has an item m, and all its other items are nullable
pub record LeadsTo (g : Grammar) (n m : ℕ) : Type 0 where
  pub rule : ℕ
  pub dot : ℕ
  pub slot : ℕ
  pub of : IsRuleOf g n rule
  pub item : ItemAt g rule dot (Non m slot)
  pub others : (k : ℕ) (other : GItem) → k ≢ dot → ItemAt g rule k other → IsNullableItem g other

-- n leads to m in one step or more
pub data LeadsOn (g : Grammar) : ℕ → ℕ → Type 0 where
  once : {n m : ℕ} → LeadsTo g n m → LeadsOn g n m
  onward : {n m k : ℕ} → LeadsTo g n m → LeadsOn g m k → LeadsOn g n k

-- the nonterminal derives itself alone
abbrev pub DerivesItself : Grammar → ℕ → Type 0
DerivesItself g n = LeadsOn g n n

-- no class is empty, each nonterminal derives a word, and none derives itself alone
pub record IsSound (g : Grammar) : Type 0 where
  pub built : IsBuilt g
  pub term_members : (t : ℕ) → t < length g.terms → HasMembers (term_of g t).regex
  pub skip_members : (k : ℕ) → k < length g.skips → HasMembers (skip_of g k).regex
  pub productive : (n : ℕ) → n < g.nons → IsProductive g n
  pub straight : (n : ℕ) → DerivesItself g n → ⊥
