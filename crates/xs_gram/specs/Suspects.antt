-- Suspects of ambiguity: a word that is loose for two rules, and a word that can be cut at two
-- places.
use Rattle.std.specs.Prelude.{ℕ, ◌<◌, List, ◌++◌, length}
use Rattle.xs_gram.specs.declared.parts.GItem.{GItem}
use Rattle.xs_gram.specs.Grammar.{Grammar, IsRuleOf}
use Rattle.xs_gram.specs.Fences.{spread, IsCut}
use Rattle.xs_gram.specs.Loose.{IsLoose}

-- p and q are rules of one nonterminal, p before q, and the word is loose for both
pub record IsVertical (g : Grammar) (p q : ℕ) (w : List ℕ) : Type 0 where
  pub non : ℕ
  pub first : IsRuleOf g non p
  pub second : IsRuleOf g non q
  pub less : p < q
  pub loose_first : IsLoose g (spread g p) w
  pub loose_second : IsLoose g (spread g q) w

-- a is not empty, x and xa are loose for the front, y and ay for the rest
pub record Overlaps (g : Grammar) (front rest : List GItem) (x a y : List ℕ) : Type 0 where
  pub some : 0 < length a
  pub short_front : IsLoose g front x
  pub long_front : IsLoose g front (x ++ a)
  pub short_rest : IsLoose g rest y
  pub long_rest : IsLoose g rest (a ++ y)

-- c is a cut of rule p, from 1 to the number of its spread items less 1, and the words overlap there
pub record IsHorizontal (g : Grammar) (p c : ℕ) (x a y : List ℕ) : Type 0 where
  pub rule : p < length g.rules
  pub low : 0 < c
  pub high : c < length (spread g p)
  pub front : List GItem
  pub rest : List GItem
  pub cut : IsCut g.fences (spread g p) c front rest
  pub overlap : Overlaps g front rest x a y
