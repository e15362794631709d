-- One side of a sheet: its start, its rules, its terminals and ignorables, and its fences.
use Rattle.std.specs.Prelude.{◌≡◌, ℕ, ◌+◌, ◌<◌, List, [], ◌∷◌, length, false, slice_get, slice_index_or, Some}
use Rattle.xs_regex.specs.declared.regex.Regex.TheVariants.{Empty}
use Rattle.xs_regex.specs.declared.position.Position.{Position}
use Rattle.xs_regex.specs.Matches.{Matches}
use Rattle.xs_gram.specs.declared.parts.GItem.{GItem}
use Rattle.xs_gram.specs.declared.parts.GItem.TheVariants.{Fixed, Term, Non, Skip}
use Rattle.xs_gram.specs.declared.parts.RulePart.{RulePart}
use Rattle.xs_gram.specs.declared.parts.Terminal.{Terminal}
use Rattle.xs_gram.specs.declared.parts.Ignorable.{Ignorable}

pub record Grammar : Type 0 where
  pub start : ℕ
  pub nons : ℕ
  pub rules : List RulePart
  pub terms : List Terminal
  pub skips : List Ignorable
  pub fences : List (ℕ × ℕ)

-- what stands for a rule, a terminal and an ignorable that are not there
abbrev pub no_rule : RulePart
no_rule = record { non = 0; items = [] }

abbrev pub no_automaton : Position
no_automaton = record { classes = []; first = []; last = []; follow = []; nullable = false }

abbrev pub no_terminal : Terminal
no_terminal = record { regex = Empty; automaton = no_automaton }

abbrev pub no_ignorable : Ignorable
no_ignorable = record { regex = Empty; automaton = no_automaton; normal = [] }

abbrev pub rule_of : Grammar → ℕ → RulePart
rule_of g p = slice_index_or g.rules p no_rule

abbrev pub term_of : Grammar → ℕ → Terminal
term_of g t = slice_index_or g.terms t no_terminal

abbrev pub skip_of : Grammar → ℕ → Ignorable
skip_of g k = slice_index_or g.skips k no_ignorable

-- the items of rule p
abbrev pub items : Grammar → ℕ → List GItem
items g p = (rule_of g p).items

-- p is a rule of the nonterminal
abbrev pub IsRuleOf : Grammar → ℕ → ℕ → Type 0
IsRuleOf g non p = (p < length g.rules) × ((rule_of g p).non ≡ non)

-- item n of rule p
abbrev pub ItemAt : Grammar → ℕ → ℕ → GItem → Type 0
ItemAt g p n item = slice_get (items g p) n ≡ Some item

-- the words of a terminal and of an ignorable, and an ignorable's normal spelling
abbrev pub IsTermWord : Grammar → ℕ → List ℕ → Type 0
IsTermWord g t w = Matches (term_of g t).regex w

abbrev pub IsSkipWord : Grammar → ℕ → List ℕ → Type 0
IsSkipWord g k w = Matches (skip_of g k).regex w

abbrev pub normal_word : Grammar → ℕ → List ℕ
normal_word g k = (skip_of g k).normal

-- the slots of a rule's items, in the order of the items
abbrev pub slots : List GItem → List ℕ
slots [] = []
slots (Fixed w ∷ is) = slots is
slots (Term t s ∷ is) = s ∷ slots is
slots (Non n s ∷ is) = s ∷ slots is
slots (Skip k ∷ is) = slots is

-- how many symbols the fixed words of items have, and those of all rules
abbrev pub fixed_symbols : List GItem → ℕ
fixed_symbols [] = 0
fixed_symbols (Fixed f ∷ is) = length f + fixed_symbols is
fixed_symbols (Term t s ∷ is) = fixed_symbols is
fixed_symbols (Non n s ∷ is) = fixed_symbols is
fixed_symbols (Skip k ∷ is) = fixed_symbols is

abbrev pub symbols_count : List RulePart → ℕ
symbols_count [] = 0
symbols_count (r ∷ rs) = fixed_symbols r.items + symbols_count rs
