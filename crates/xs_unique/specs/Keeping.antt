-- What an accepted pair of grammars keeps.
use Rattle.xs_gram.specs.Languages.{IsUnique}
use Rattle.xs_check_laws.specs.Acceptance.{IsAccepted}
use Rattle.xs_pair.specs.Grammars.{Pair}

-- the grammars are accepted, and each word of either has at most one derivation
pub record KeepsUnique (p : Pair) : Type 0 where
  pub accepted : IsAccepted p.text p.xml
  pub text : IsUnique p.text
  pub xml : IsUnique p.xml
