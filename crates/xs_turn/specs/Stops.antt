-- Why a document of a grammar has no tree.
use Rattle.std.specs.Prelude.{⊤, ℕ, List}
use Rattle.xs_gram.specs.Grammar.{Grammar}
use Rattle.xs_gram.specs.Languages.{InLang, IsViable}
use Rattle.xs_earley.specs.declared.fault.SeeFault.{SeeFault}
use Rattle.xs_earley.specs.declared.fault.SeeFault.TheVariants as S
use Rattle.xs_turn.specs.declared.fault.TurnFault.{TurnFault}
use Rattle.xs_turn.specs.declared.fault.TurnFault.TheVariants as F

-- when each stop comes
abbrev pub IsStop : Grammar → List ℕ → TurnFault → Type 0
IsStop g w (F.Foreign viable) = (InLang g w → ⊥) × IsViable g w viable
IsStop g w F.Memory = ⊤

-- the fault of a document that is not recognised
abbrev pub fault_of : SeeFault → TurnFault
fault_of (S.Foreign viable) = F.Foreign viable
fault_of S.Memory = F.Memory
