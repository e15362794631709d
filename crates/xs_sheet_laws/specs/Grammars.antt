-- Grammars that are alike.
use Rattle.std.specs.Prelude.{◌≡◌, ℕ, length}
use Rattle.xs_gram.specs.Grammar.{Grammar, term_of, skip_of, normal_word}
use Rattle.xs_sheet_laws.specs.Regexes as R

-- They have the same start, nonterminals, rules and fences, and as many terminals and ignorables; each terminal and
-- ignorable of one has a regex like that of the other's, and each ignorable the same normal spelling.
pub record AreAlike (g h : Grammar) : Type 0 where
  pub start : g.start ≡ h.start
  pub nons : g.nons ≡ h.nons
  pub rules : g.rules ≡ h.rules
  pub fences : g.fences ≡ h.fences
  pub terms : length g.terms ≡ length h.terms
  pub skips : length g.skips ≡ length h.skips
  pub term_regexes : (t : ℕ) → R.AreAlike (term_of g t).regex (term_of h t).regex
  pub skip_regexes : (k : ℕ) → R.AreAlike (skip_of g k).regex (skip_of h k).regex
  pub normals : (k : ℕ) → normal_word g k ≡ normal_word h k
