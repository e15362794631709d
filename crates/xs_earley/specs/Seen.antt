-- What is seen of a document: its chart, or how far it begins a word of the language.
use Rattle.std.specs.Prelude.{ℕ, List}
use Rattle.xs_gram.specs.Grammar.{Grammar}
use Rattle.xs_gram.specs.Languages.{InLang, IsViable}
use Rattle.xs_earley.specs.declared.fault.SeeFault.{SeeFault}
use Rattle.xs_earley.specs.declared.fault.SeeFault.TheVariants.{Foreign, Memory}

-- the fault is want of memory, or the document is not of the language and its longest viable prefix is this long
abbrev pub IsFault : Grammar → List ℕ → SeeFault → Type 0
IsFault g w (Foreign k) = (InLang g w → ⊥) × IsViable g w k
IsFault g w Memory = Unit {0}
