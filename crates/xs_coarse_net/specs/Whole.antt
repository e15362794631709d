-- The states of the net that covers a whole grammar, and what its rules owe.
use Rattle.std.specs.Prelude.{◌≡◌, ℕ, zero, suc, ◌+◌, ◌*◌, ◌<◌, nat_eq, List, ◌++◌, length, if◌then◌else◌}
use Rattle.xs_gram.specs.declared.parts.GItem.{GItem}
use Rattle.xs_gram.specs.declared.parts.GItem.TheVariants.{Fixed, Term, Non, Skip}
use Rattle.xs_gram.specs.Grammar.{Grammar, rule_of}
use Rattle.xs_gram.specs.Fences.{spread, IsPlain, IsLevel, OuterAt, OuterGroupAt}
use Rattle.xs_gram.specs.Loose.{Spot, entry, exit, at}
use Rattle.xs_loose.specs.Groups.{group_number}
use Rattle.std.specs.List.{All}
use Rattle.xs_coarse.specs.Coarse.{Table, Net, IsWithin, HasArc, group_label}
use Rattle.xs_coarse_net.specs.declared.cover.Whole.{Whole}
use Rattle.xs_coarse.specs.Covers.{IsLeaf}
use Rattle.xs_coarse_net.specs.Going.{LeafGoes}
use Rattle.xs_coarse_net.specs.Reaching.{AreUses}
use Rattle.xs_coarse_net.specs.Renaming.{IsRenamed}

-- the states of a nonterminal's entry and exit
abbrev pub entry_state : ℕ → ℕ
entry_state m = 2 * m

abbrev pub exit_state : ℕ → ℕ
exit_state m = suc (2 * m)

-- The label of an arc from a nonterminal's exit back into a rule of nonterminal m. It is none of the
-- grammar's labels: before such a net is searched, the arcs back into rules of some nonterminals become
-- empty moves, and those into others go.
abbrev pub return_label : ℕ → ℕ
return_label m = 65536 + m

-- where the places of rule p begin
abbrev pub rule_base : Grammar → ℕ → ℕ
rule_base g zero = 2 * g.nons
rule_base g (suc p) = rule_base g p + length (spread g p)

-- the state of a place of a rule: the first one is the entry of its nonterminal, the last one, where
-- there are items, its exit
abbrev pub place_state : Grammar → ℕ → ℕ → ℕ
place_state g p k = if nat_eq k 0 then entry_state (rule_of g p).non else (if nat_eq k (length (spread g p)) then exit_state (rule_of g p).non else rule_base g p + k)

-- the state of each spot of the grammar
abbrev pub spot_state : Grammar → Spot → ℕ
spot_state g (entry m) = entry_state m
spot_state g (exit m) = exit_state m
spot_state g (at p k) = place_state g p k

-- an item of a rule of a nonterminal leads from a state to another, if no fence symbol stands in it: a
-- nonterminal to its entry, and back from its exit
abbrev pub ItemLaid : Grammar → Table → Net → ℕ → GItem → ℕ → ℕ → Type 0
ItemLaid g t n own (Fixed f) a b = IsPlain g.fences (Fixed f) → LeafGoes g t n (Fixed f) a b
ItemLaid g t n own (Term i s) a b = LeafGoes g t n (Term i s) a b
ItemLaid g t n own (Non m s) a b = HasArc n a 0 (entry_state m) × HasArc n (exit_state m) (return_label own) b
ItemLaid g t n own (Skip k) a b = LeafGoes g t n (Skip k) a b

-- what stands outer at place k of rule p leads on
pub record PlaceLaid (g : Grammar) (t : Table) (n : Net) (p k : ℕ) : Type 0 where
  pub leaves : (i : GItem) → OuterAt g.fences (spread g p) k i → IsLeaf i → LeafGoes g t n i (place_state g p k) (place_state g p (suc k))
  pub enters : (m s : ℕ) → OuterAt g.fences (spread g p) k (Non m s) → HasArc n (place_state g p k) 0 (entry_state m)
  pub returns : (m s : ℕ) → OuterAt g.fences (spread g p) k (Non m s) → HasArc n (exit_state m) (return_label (rule_of g p).non) (place_state g p (suc k))
  pub groups : (m l r : ℕ) (inside : List GItem) → OuterGroupAt g.fences (spread g p) k m l inside r → HasArc n (place_state g p k) (group_label t (group_number g p k)) (place_state g p (suc m))

-- the items of rule p before place k are no level stretch: the place is inside a group
abbrev pub IsEnclosed : Grammar → ℕ → ℕ → Type 0
IsEnclosed g p k = (before rest : List GItem) → spread g p ≡ before ++ rest → k ≡ length before → IsLevel g.fences before → ⊥

-- so does each place of the rule before the end, and a rule without items leads to the exit
pub record RuleLaid (g : Grammar) (t : Table) (n : Net) (p : ℕ) : Type 0 where
  pub places : (k : ℕ) → k < length (spread g p) → PlaceLaid g t n p k
  pub passes : length (spread g p) ≡ 0 → HasArc n (entry_state (rule_of g p).non) 0 (exit_state (rule_of g p).non)

-- so do the rules before one
abbrev pub RulesLaid : Grammar → Table → Net → ℕ → Type 0
RulesLaid g t n p = (q : ℕ) → q < p → RuleLaid g t n q

-- the net that covers all rules of the grammar, and the one between the names of its states
pub record IsWhole (g : Grammar) (t : Table) (w : Whole) : Type 0 where
  pub within : All (IsWithin w.net.states) w.net.arcs
  pub laid : RulesLaid g t w.net (length g.rules)
  pub uses : AreUses w.net w.uses
  pub renamed : IsRenamed w.names.items w.net w.merged
