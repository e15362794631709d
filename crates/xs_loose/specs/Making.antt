-- How nets are made: from bare states, by laying the rules of components that were left to tasks.
use Rattle.std.specs.Prelude.{◌≡◌, ℕ, suc, ◌+◌, ◌<◌, false, List, [], ◌∷◌, ◌++◌, slice_index_or}
use Rattle.xs_auto.specs.Nets.{Graph, states, final_at, edges_of, moves_of, calls_of}
use Rattle.xs_gram.specs.Grammar.{Grammar, rule_of}
use Rattle.xs_gram.specs.Fences.{spread}
use Rattle.xs_check_laws.specs.Weights.{Members}
use Rattle.xs_loose.specs.declared.site.Home.{Home}
use Rattle.xs_loose.specs.declared.site.Task.{Task}
use Rattle.xs_loose.specs.Arcs.{Arc, pass}
use Rattle.xs_loose.specs.Laying.{entry_state, exit_state, LaysComponent, LaysBody}
use Rattle.xs_loose.specs.Work.{Gains, work, AreTasks, IsDone}

-- the net has that many states, none of which is final or leads anywhere
pub record IsBlank (count : ℕ) (n : Graph) : Type 0 where
  pub states : states n ≡ count
  pub finals : (a : ℕ) → final_at n a ≡ false
  pub edges : (a : ℕ) → edges_of n a ≡ []
  pub moves : (a : ℕ) → moves_of n a ≡ []
  pub calls : (a : ℕ) → calls_of n a ≡ []

-- A rule of a member of the home's component was laid: a move from the entry of its nonterminal to
-- its place 0, its items, and a move to the exit.
pub record IsRuleLaid (g : Grammar) (weights : List ℕ) (h : Home) (p place next : ℕ) (old : Graph) (olds : List Task) (new : Graph) (news : List Task) : Type 0 where
  pub rank : ℕ
  pub members : Members g h.non (rule_of g p).non rank
  pub own : List Arc
  pub last : ℕ
  pub lays : LaysBody g h.non h.first p 0 (spread g p) place (suc place) own last next
  pub done : IsDone g weights (pass (entry_state h.first rank) place ∷ (own ++ pass last (exit_state h.first rank) ∷ [])) place next old olds new news

-- the component of the task was laid, and the tasks that this left take fewer states than it did
pub record IsTaskDone (g : Grammar) (weights : List ℕ) (t : Task) (old : Graph) (olds : List Task) (new : Graph) (news : List Task) : Type 0 where
  pub own : List Arc
  pub next : ℕ
  pub lays : LaysComponent g t.non t.at own next
  pub gains : Gains g own old olds new news
  pub tasks : AreTasks g weights (states old) olds → AreTasks g weights (states old) news
  pub less : work weights news < work weights olds + slice_index_or weights t.non 0
