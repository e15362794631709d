-- A recogniser after some symbols.
use Rattle.std.specs.Prelude.{◌≡◌, ℕ, suc, ◌<◌, ◌≤◌, Bool, true, false, List, [], Some, length, slice_index_or}
use Rattle.xs_chart.specs.declared.item.Item.{Item}
use Rattle.xs_chart.specs.Charted.{Charted, items_of, set_limit}
use Rattle.xs_gram.specs.Grammar.{Grammar}
use Rattle.xs_gram.specs.Sound.{IsSound}
use Rattle.xs_gram.specs.Languages.{IsFront}
use Rattle.xs_gram.specs.Places.{all_places}
use Rattle.xs_atoms.specs.declared.atoms.Atoms.{Atoms}
use Rattle.xs_atoms.specs.Alphabet.{atom_of}
use Rattle.xs_chart_laws.specs.Charts.{IsChartOf, HasWaiters}
use Rattle.xs_earley.specs.declared.begun.Begun.{Begun}
use Rattle.xs_earley.specs.declared.facts.Facts.{Facts}
use Rattle.xs_earley.specs.Facts.{AreFacts}
use Rattle.xs_earley.specs.Arriving.{gathered, item_due, item_begun, AreBegun}
use Rattle.xs_earley.specs.Masks.{AreMasks}
use Rattle.xs_earley.specs.Stages.{AreDueAt}

-- The word so far, its chart, the begun fixed words beside each set, and the facts of the grammar; how many marks there
-- are, the atom of the last symbol, and whether the last set is repeated by each symbol of that atom.
pub record Running : Type 0 where
  pub word : List ℕ
  pub chart : Charted
  pub begun : List (List Begun)
  pub facts : Facts
  pub marks : ℕ
  pub atom : ℕ
  pub steady : Bool

-- a run of which it is not known whether its last set is repeated
abbrev pub unsteady : List ℕ → Charted → List (List Begun) → Facts → ℕ → Running
unsteady word chart begun facts marks = record { word = word; chart = chart; begun = begun; facts = facts; marks = marks; atom = 0; steady = false }

-- By each symbol of the atom the last set is repeated: it is as the one before it, no word is begun there, and a symbol of the
-- atom leads to just what was due in it, which is something, and begins no word.
pub record IsSteady (g : Grammar) (atom : ℕ) (word : List ℕ) (chart : Charted) (begun : List (List Begun)) (facts : Facts) : Type 0 where
  pub atoms : Atoms
  pub told : facts.atoms ≡ Some atoms
  pub before : ℕ
  pub long : length word ≡ suc before
  pub same : items_of chart (length word) ≡ items_of chart before
  pub unbegun : slice_index_or begun (length word) [] ≡ []
  pub due : List Item
  pub some : due ≡ [] → ⊥
  pub was : AreDueAt g word chart.sets (length word) due
  pub next : (s : ℕ) → atom_of atoms s ≡ atom → gathered (item_due g facts s) (items_of chart (length word)) ≡ due
  pub idle : (s : ℕ) → atom_of atoms s ≡ atom → gathered (item_begun facts s) (items_of chart (length word)) ≡ []

-- The run is of this sound grammar: its chart has exactly what stands for the word so far, beside each set stand
-- exactly the fixed words that are begun there, and the word so far begins a word of the language; where the run says that
-- its last set is repeated, it is.
pub record IsRunOf (g : Grammar) (run : Running) : Type 0 where
  pub sound : IsSound g
  pub facts : AreFacts g run.facts
  pub masks : AreMasks g run.facts (length (all_places g)) run.facts.masks.items
  pub marks : run.marks ≡ g.nons
  pub few : length run.word < set_limit
  pub chart : IsChartOf g run.word run.chart.sets
  pub waiters : HasWaiters g run.chart
  pub counted : length run.begun ≡ suc (length run.word)
  pub begun : (k : ℕ) → k ≤ length run.word → AreBegun g run.word run.chart.sets k (slice_index_or run.begun k [])
  pub front : IsFront g run.word
  pub steady : run.steady ≡ true → IsSteady g run.atom run.word run.chart run.begun run.facts
