-- The layers of a search: where it began, after its seeds, and after it was closed.
use Rattle.std.proofs.Common.{◌≡◌, ℕ, ◌+◌, ◌<◌, ◌≤◌, List, [], get_or, ◌∙◌, arith}
use Rattle.std.specs.List.{All}
use Rattle.std.proofs.lemmas.List.Elements.{All-contains, All-weaker}
use Rattle.xs_coarse.specs.Coarse.{Table, Net}
use Rattle.xs_coarse.specs.declared.pair.Pair.{Pair}
use Rattle.xs_coarse.specs.declared.found.Found.{Found}
use Rattle.xs_coarse.specs.Arcs.{Slips, Steps, Goes, HasFound, HasTarget, HasAll, IsClosedWithin, NeverReturns}
use Rattle.xs_coarse.specs.Found.{IsInside, IsMore, pair}
use Rattle.xs_coarse.specs.Sets.{IsShut, AreDoubles, AreTurns, AreMiddles, AreLastMiddles, AreRests, AreEndPairs, Leaves}
use Rattle.xs_coarse.specs.Tails.{IsWithinAll}
use Rattle.xs_coarse.proofs.GrowthLemmas.{more_then, more_has}
use Rattle.xs_coarse.proofs.Walks.{given_same, turn_target, return_target}

-- each pair to which arcs that may read a common word lead from this one was found
abbrev pub StepsFrom : Table → Net → Found → Pair → Type 0
StepsFrom t n f p = HasAll (Steps t n n) p.first p.second f

-- the states that are looked at are those below two numbers
pub record LooksAt (h w : ℕ) (f : Found) : Type 0 where
  pub height : f.height ≡ h
  pub width : f.width ≡ w

pub looks_of : {h w : ℕ} {f : Found} → (f.height ≡ h) × (f.width ≡ w) × (f.pairs.items ≡ []) → LooksAt h w f
looks_of k = record { height = k.0; width = k.1 }

pub looks_on : {h w : ℕ} {f g : Found} → LooksAt h w f → IsMore f g → LooksAt h w g
looks_on l m = record { height = m.height ∙ l.height; width = m.width ∙ l.width }

inside_as : {h w : ℕ} {f g : Found} → LooksAt h w f → IsMore f g → All (IsInside h w) g.pairs.items
inside_as l more = rw (← (looks_on l more).height, ← (looks_on l more).width) more.fits.inside

-- pairs of states below a number are pairs of states below a greater one
pub inside_more : (h k w : ℕ) (ps : List Pair) → h ≤ k → All (IsInside h w) ps → All (IsInside k w) ps
inside_more h k w ps le inside = All-weaker (IsInside h w) (IsInside k w) (λ p i. record { first = omega (arith, i.first, le); second = i.second }) ps inside

closed_as : (L : ℕ → ℕ → ℕ → ℕ → Type 0) {h w : ℕ} {g : Found} → LooksAt h w g → IsClosedWithin L g.height g.width g.pairs.items → IsClosedWithin L h w g.pairs.items
closed_as L l closed a b c d there leads low low_too = closed a b c d there leads (omega (arith, low, l.height)) (omega (arith, low_too, l.width))

pub doubles_from : (t : Table) (n : Net) (top : ℕ) (goal : Pair) {f g h : Found} → LooksAt (top + 1) (top + 1) f → IsMore f g → IsMore g h → NeverReturns n (top + 1) → HasFound g 0 0 → IsShut (Goes t n n) goal h.height h.width h.pairs.items → AreDoubles t n top h.pairs.items
doubles_from t n top goal looks seeded more never starts shut = record {
  inside = inside_as (looks_on looks seeded) more;
  starts = more_has more 0 0 (starts (omega (arith, (looks_on looks seeded).height)) (omega (arith, (looks_on looks seeded).width)));
  closed = closed_as (Goes t n n) (looks_on (looks_on looks seeded) more) shut.closed;
  returns = never;
}

pub turns_from : (n : Net) (here : ℕ) (doubles : List Pair) {f g h : Found} → here < n.states → LooksAt (here + 1) n.states f → IsMore f g → IsMore g h → All (λ p. HasTarget g (turn_target here p)) doubles → IsClosedWithin (Slips n n) h.height h.width h.pairs.items → AreTurns n here doubles h.pairs.items
turns_from n here doubles {f} {g} {h} low looks seeded more there closed = record {
  inside = inside_as (looks_on looks seeded) more;
  there = λ k d lt e l. let p = get_or doubles k d in more_has more p.second here (given_same g p.first here (pair p.second here) e (there k d lt) (omega (arith, l, (looks_on looks seeded).height)) (omega (arith, low, (looks_on looks seeded).width)));
  closed = closed_as (Slips n n) (looks_on (looks_on looks seeded) more) closed;
}

-- what was found after the seeds is among the pairs in the end
steps_kept : (t : Table) (n : Net) (here : ℕ) {g h : Found} (p : Pair) → LooksAt (here + 1) n.states g → IsMore g h → StepsFrom t n g p → Leaves t n here h.pairs.items p
steps_kept t n here p looks more steps c d s low low_too = more_has more c d (steps c d s (omega (arith, low, looks.height)) (omega (arith, low_too, looks.width)))

pub middles_from : (t : Table) (n : Net) (here : ℕ) (turns : List Pair) (goal : Pair) {f g h : Found} → LooksAt (here + 1) n.states f → IsMore f g → IsMore g h → All (StepsFrom t n g) turns → IsShut (Goes t n n) goal h.height h.width h.pairs.items → AreMiddles t n here turns h.pairs.items
middles_from t n here turns goal {f} {g} {h} looks seeded more there shut = record {
  inside = inside_as (looks_on looks seeded) more;
  there = All-weaker (StepsFrom t n g) (Leaves t n here h.pairs.items) (λ p s. steps_kept t n here p (looks_on looks seeded) more s) turns there;
  closed = closed_as (Goes t n n) (looks_on (looks_on looks seeded) more) shut.closed;
}

-- the seeds of a front's end: the steps from all pairs, and then the gate beside each state of the rest
pub last_middles_from : (t : Table) (n : Net) (gate here : ℕ) (pairs : List Pair) (goal : Pair) {f g e h : Found} → LooksAt (here + 1) n.states f → IsMore f g → IsMore g e → IsMore e h → gate ≤ here → AreEndPairs n gate here pairs → All (StepsFrom t n g) pairs → (0 < gate → (b : ℕ) → here + 1 ≤ b → b < n.states → HasFound e gate b) → IsShut (Goes t n n) goal h.height h.width h.pairs.items → AreLastMiddles t n gate here h.pairs.items
last_middles_from t n gate here pairs goal {f} {g} {e} {h} looks stepped entered more low each there enters shut =
    let looks_g = looks_on looks stepped in
    let looks_e = looks_on looks_g entered in
    record {
      inside = inside_as looks_e more;
      there = λ a b from to after within. steps_kept t n here (pair a b) looks_g (more_then entered more) (All-contains (StepsFrom t n g) pairs (pair a b) there (each a b from to after within));
      enters = λ some b after within. more_has more gate b (enters some b (omega (arith, after)) within (omega (arith, low, looks_e.height)) (omega (arith, within, looks_e.width)));
      closed = closed_as (Goes t n n) (looks_on looks_e more) shut.closed;
    }

shut_as : (L : ℕ → ℕ → ℕ → ℕ → Type 0) (goal : Pair) {h w : ℕ} {g : Found} → LooksAt h w g → IsShut L goal g.height g.width g.pairs.items → IsShut L goal h w g.pairs.items
shut_as L goal l shut = record { inside = rw (← l.height, ← l.width) shut.inside; closed = closed_as L l shut.closed; without = shut.without }

pub shut_from : (L : ℕ → ℕ → ℕ → ℕ → Type 0) (goal : Pair) {h w : ℕ} {f g e : Found} → LooksAt h w f → IsMore f g → IsMore g e → IsShut L goal e.height e.width e.pairs.items → IsShut L goal h w e.pairs.items
shut_from L goal looks seeded more shut = shut_as L goal (looks_on (looks_on looks seeded) more) shut

pub rests_from : (t : Table) (n : Net) (here last : ℕ) (middles : List Pair) {f g h : Found} → IsWithinAll n → here < n.states → All (IsInside n.states n.states) middles → LooksAt n.states n.states f → IsMore f g → IsMore g h → All (λ p. HasTarget g (return_target here p)) middles → IsShut (Goes t n n) (pair last last) h.height h.width h.pairs.items → AreRests t n here last middles h.pairs.items
rests_from t n here last middles {f} {g} {h} within low inside looks seeded more there shut = record {
  within = within;
  there = λ k d lt e. let p = get_or middles k d in more_has more here p.second (given_same g p.first here (pair here p.second) e (there k d lt) (omega (arith, low, (looks_on looks seeded).height)) (omega (arith, (inside k d lt).second, (looks_on looks seeded).width)));
  shut = shut_from (Goes t n n) (pair last last) looks seeded more shut;
}
