-- What is still to be laid while a net is made, and which arcs the net and the tasks gain together.
use Rattle.std.specs.Prelude.{◌⊎◌, ℕ, ◌+◌, ◌<◌, ◌≤◌, List, [], ◌∷◌, slice_index_or}
use Rattle.std.specs.List.{Contains}
use Rattle.xs_auto.specs.Nets.{Graph, states}
use Rattle.xs_gram.specs.Grammar.{Grammar}
use Rattle.xs_gram.specs.Loose.{AreComponents}
use Rattle.xs_gram.specs.Sound.{IsBuilt}
use Rattle.xs_loose.specs.declared.site.Site.{Site}
use Rattle.xs_loose.specs.declared.site.Task.{Task}
use Rattle.xs_loose.specs.Arcs.{Arc}
use Rattle.xs_loose.specs.Growth.{HasArc, GrowsBy}
use Rattle.xs_loose.specs.Laying.{LaysComponent}
use Rattle.xs_loose.specs.Tables.{AreTables}

-- a grammar that was built, with its components and its tables
pub record IsSite (s : Site) : Type 0 where
  pub built : IsBuilt s.g.now
  pub comps : AreComponents s.g.now s.comps.now
  pub tables : AreTables s.g.now s.comps.now s.tables.now

-- the arc is one of a component that is still to be laid
pub record IsOfTask (g : Grammar) (tasks : List Task) (x : Arc) : Type 0 where
  pub task : Task
  pub among : Contains tasks task
  pub own : List Arc
  pub next : ℕ
  pub lays : LaysComponent g task.non task.at own next
  pub has : Contains own x

-- the net has the arc, or it is one of a component that is still to be laid
abbrev pub Holds : Grammar → Graph → List Task → Arc → Type 0
Holds g n tasks x = HasArc n x ⊎ IsOfTask g tasks x

-- the net and the tasks have gained the arcs together, and no others
abbrev pub Gains : Grammar → List Arc → Graph → List Task → Graph → List Task → Type 0
Gains g arcs old olds new news = GrowsBy arcs old new (Holds g old olds) (Holds g new news)

-- how many states the components of tasks take
abbrev pub work : List ℕ → List Task → ℕ
work weights [] = 0
work weights (t ∷ ts) = slice_index_or weights t.non 0 + work weights ts

-- the task's nonterminal is there, and its component ends by the bound
pub record IsTask (g : Grammar) (weights : List ℕ) (bound : ℕ) (t : Task) : Type 0 where
  pub there : t.non < g.nons
  pub within : t.at + slice_index_or weights t.non 0 ≤ bound

abbrev pub AreTasks : Grammar → List ℕ → ℕ → List Task → Type 0
AreTasks g weights bound tasks = (t : Task) → Contains tasks t → IsTask g weights bound t

-- the arcs of a block of states, from `at` on and below `next`, were gained; the tasks that this
-- gave take no more states than the block has
pub record IsDone (g : Grammar) (weights : List ℕ) (arcs : List Arc) (at next : ℕ) (old : Graph) (olds : List Task) (new : Graph) (news : List Task) : Type 0 where
  pub gains : Gains g arcs old olds new news
  pub tasks : AreTasks g weights (states old) olds → AreTasks g weights (states old) news
  pub less : work weights news + at ≤ work weights olds + next
