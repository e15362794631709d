-- How nets are kept: lists by their states, and edges that name their classes by numbers.
use Rattle.std.specs.Prelude.{◌≡◌, ℕ, ◌<◌, ◌≤◌, ◌^◌, Bool, false, List, [], map, length, get_or, Option, IfSome}
use Rattle.std.specs.List.{All, range_with_len}
use Rattle.xs_auto.specs.declared.call.Call.{Call}
use Rattle.xs_auto.specs.declared.edge.EdgeRow.{EdgeRow}
use Rattle.xs_auto.specs.declared.grouped.Leaving.{Leaving}
use Rattle.xs_auto.specs.Edges.{Edge}
use Rattle.xs_auto.specs.Grouping.{LeavesBelow, grouped}
use Rattle.xs_auto.specs.Nets.{Graph, IsSound}

-- its class is one of that many
abbrev pub NamesBelow : ℕ → EdgeRow → Type 0
NamesBelow classes row = row.class < classes

-- the edge, by the table of classes
abbrev pub seen : List (List (ℕ × ℕ)) → EdgeRow → Edge
seen classes row = record { class = get_or classes row.class []; to = row.to }

-- the net of these lists, each by its states
abbrev pub graph_of : Option ℕ → List Bool → List (List Edge) → List (List ℕ) → List (List Call) → Graph
graph_of start finals es ms ks = record { start = start; nodes = map (λ a. record { final = get_or finals a false; edges = get_or es a []; moves = get_or ms a []; calls = get_or ks a [] }) (range_with_len 0 (length finals)) }

-- the edges by their states, by the table of classes
abbrev pub edge_lists : List (List (ℕ × ℕ)) → List (List EdgeRow) → List (List Edge)
edge_lists classes rows = map (map (seen classes)) rows

-- the lists are those of a sound net: there is one for each state, and each class is in the table
pub record IsLaidOut (start : Option ℕ) (finals : List Bool) (classes : List (List (ℕ × ℕ))) (rows : List (List EdgeRow)) (ms : List (List ℕ)) (ks : List (List Call)) : Type 0 where
  pub edges : length rows ≡ length finals
  pub moves : length ms ≡ length finals
  pub calls : length ks ≡ length finals
  pub named : (a : ℕ) → All (NamesBelow (length classes)) (get_or rows a [])
  pub sound : IsSound (graph_of start finals (edge_lists classes rows) ms ks)

-- the net of what was added
abbrev pub draft_of : Option ℕ → List Bool → List (List (ℕ × ℕ)) → List (Leaving EdgeRow) → List (Leaving ℕ) → List (Leaving Call) → Graph
draft_of start finals classes es ms ks = graph_of start finals (edge_lists classes (grouped (length finals) es)) (grouped (length finals) ms) (grouped (length finals) ks)

-- each state and each class that was named is there
pub record IsDrafted (states : ℕ) (start : Option ℕ) (entered : List ℕ) (classes : List (List (ℕ × ℕ))) (es : List (Leaving EdgeRow)) (ms : List (Leaving ℕ)) (ks : List (Leaving Call)) : Type 0 where
  pub few : states < 2 ^ 32
  pub begins : IfSome start (λ a. a < states)
  pub entries : length entered ≡ states
  pub edges : All (LeavesBelow states) es
  pub edges_to : All (λ x. x.arc.to < states) es
  pub named : All (λ x. NamesBelow (length classes) x.arc) es
  pub moves : All (LeavesBelow states) ms
  pub moves_to : All (λ x. x.arc < states) ms
  pub calls : All (LeavesBelow states) ks
  pub calls_to : All (λ x. x.arc.to < states) ks

-- the class has that number in the table
pub record HasNumber (classes : List (List (ℕ × ℕ))) (number : ℕ) (class : List (ℕ × ℕ)) : Type 0 where
  pub below : number < length classes
  pub is : get_or classes number [] ≡ class

-- the classes of the old table have their numbers in the new one
pub record KeepsNumbers (old new : List (List (ℕ × ℕ))) : Type 0 where
  pub long : length old ≤ length new
  pub same : (k : ℕ) → k < length old → get_or new k [] ≡ get_or old k []
