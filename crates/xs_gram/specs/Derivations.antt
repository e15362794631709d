-- Derivations: a rule, and a part for each of its items, down to words.
use Rattle.std.specs.Prelude.{◌≡◌, ℕ, List, [], ◌∷◌, ◌++◌}
use Rattle.xs_gram.specs.declared.parts.GItem.{GItem}
use Rattle.xs_gram.specs.declared.parts.GItem.TheVariants.{Fixed, Term, Non, Skip}
use Rattle.xs_gram.specs.Grammar.{Grammar, items, IsRuleOf, IsTermWord, IsSkipWord, normal_word}

-- The parts of a derivation, one for each item: a fixed word, a word of a terminal, a word of an
-- ignorable, or for a nonterminal the rule and the parts of an inner derivation.
pub data Parts : Type 0 where
  done : Parts
  fixed : List ℕ → Parts → Parts
  leaf : List ℕ → Parts → Parts
  skip : List ℕ → Parts → Parts
  sub : ℕ → Parts → Parts → Parts

pub record Derivation : Type 0 where
  pub rule : ℕ
  pub parts : Parts

-- each part is of its item's kind
abbrev pub FitsItems : Grammar → List GItem → Parts → Type 0
FitsItems g [] done = Unit {0}
FitsItems g (Fixed f ∷ is) (fixed u ps) = (u ≡ f) × FitsItems g is ps
FitsItems g (Term t s ∷ is) (leaf u ps) = IsTermWord g t u × FitsItems g is ps
FitsItems g (Skip k ∷ is) (skip u ps) = IsSkipWord g k u × FitsItems g is ps
FitsItems g (Non n s ∷ is) (sub q qs ps) = IsRuleOf g n q × FitsItems g (items g q) qs × FitsItems g is ps
FitsItems g _ _ = ⊥

-- the derivation is of a rule of the nonterminal
abbrev pub Fits : Grammar → ℕ → Derivation → Type 0
Fits g non d = IsRuleOf g non d.rule × FitsItems g (items g d.rule) d.parts

-- the words of the parts, joined in order
abbrev pub parts_yield : Parts → List ℕ
parts_yield done = []
parts_yield (fixed u ps) = u ++ parts_yield ps
parts_yield (leaf u ps) = u ++ parts_yield ps
parts_yield (skip u ps) = u ++ parts_yield ps
parts_yield (sub q qs ps) = parts_yield qs ++ parts_yield ps

abbrev pub yield : Derivation → List ℕ
yield d = parts_yield d.parts

-- the same parts with each ignorable in its normal spelling
abbrev pub normal_parts : Grammar → List GItem → Parts → Parts
normal_parts g (Fixed f ∷ is) (fixed u ps) = fixed u (normal_parts g is ps)
normal_parts g (Term t s ∷ is) (leaf u ps) = leaf u (normal_parts g is ps)
normal_parts g (Skip k ∷ is) (skip u ps) = skip (normal_word g k) (normal_parts g is ps)
normal_parts g (Non n s ∷ is) (sub q qs ps) = sub q (normal_parts g (items g q) qs) (normal_parts g is ps)
normal_parts g _ ps = ps

abbrev pub normal : Grammar → Derivation → Derivation
normal g d = record { rule = d.rule; parts = normal_parts g (items g d.rule) d.parts }
