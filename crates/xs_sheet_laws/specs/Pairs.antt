-- Pairs of grammars that are alike.
use Rattle.std.specs.Prelude.{◌≡◌}
use Rattle.xs_pair.specs.Grammars.{Pair}
use Rattle.xs_sheet_laws.specs.Grammars as G
use Rattle.xs_sheet_laws.specs.Meanings as M

-- their grammars are alike on either side, and names, lines, nonterminals and slots are the same
pub record AreAlike (p q : Pair) : Type 0 where
  pub text : G.AreAlike p.text q.text
  pub xml : G.AreAlike p.xml q.xml
  pub names : p.names ≡ q.names
  pub lines : p.lines ≡ q.lines
  pub nons : p.nons ≡ q.nons
  pub slots : p.slots ≡ q.slots

-- the same names, grammars of the same meaning on either side, and the check answers the same
pub record MeanTheSame (p q : Pair) : Type 0 where
  pub names : p.names ≡ q.names
  pub text : M.MeanTheSame p.text q.text
  pub xml : M.MeanTheSame p.xml q.xml
  pub checked : M.AreCheckedAlike p.text p.xml q.text q.xml
