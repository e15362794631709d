-- What is kept of a sheet.
use Rattle.xs_pair.specs.Grammars.{Pair, IsPair}
use Rattle.xs_pair.specs.Sound.{IsSoundPair}
use Rattle.xs_writing_laws.specs.Laws.{CanBeWritten}
pub use Rattle.xs_top.specs.Checks.{IsSure}

-- the two grammars are those of a well-formed sheet, which is accepted
pub record IsKept (p : Pair) : Type 0 where
  pub pair : IsPair p
  pub sound : IsSoundPair p
  pub writable : CanBeWritten p
  pub sure : IsSure p
