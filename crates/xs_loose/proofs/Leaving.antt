-- Nonterminals whose components are left to tasks.
use Rattle.std.proofs.Common.{◌≡◌, ℕ, suc, ◌+◌, ◌<◌, ◌≤◌, List, [], ◌∷◌, ◌++◌, get_or, refl, sym, ap, subst, ◌∙◌, arith}
use Rattle.xs_auto.specs.Nets.{Graph, states}
use Rattle.xs_gram.specs.declared.parts.GItem.TheVariants.{Non}
use Rattle.xs_gram.specs.Grammar.{Grammar}
use Rattle.xs_gram.specs.Loose.{here}
use Rattle.xs_gram.specs.Sound.{IsBuilt}
use Rattle.xs_check_laws.specs.Weights.{heaviest, Members}
use Rattle.xs_check_laws.proofs.Weights.{component_once}
use Rattle.xs_loose.specs.declared.site.Spot.{Spot}
use Rattle.xs_loose.specs.declared.site.Task.{Task}
use Rattle.xs_loose.specs.Arcs.{Arc, pass}
use Rattle.xs_loose.specs.Growth.{NetGrows}
use Rattle.xs_loose.specs.Laying.{entry_state, exit_state, LaysItem, lays_non, LaysComponent}
use Rattle.xs_loose.specs.Walking.{HasItemRoom, IsItemLaid}
use Rattle.xs_loose.specs.Weighing.{AreWeights}
use Rattle.xs_loose.specs.Work.{IsDone}
use Rattle.xs_loose.proofs.Spans.{component_span, exit_within}
use Rattle.xs_loose.proofs.Gaining.{done_grows, done_then, done_task}

-- where a nonterminal's component is laid, by the tables
pub record IsLeft (g : Grammar) (bound n slot : ℕ) (s : Spot) (rank w : ℕ) : Type 0 where
  pub own : List Arc
  pub lays : LaysComponent g n s.at own (s.at + w)
  pub exit : exit_state s.at rank < s.at + w
  pub within : s.at + w ≤ bound
  pub item : LaysItem g (Non n slot) s.before s.at (pass s.before (entry_state s.at rank) ∷ own) (exit_state s.at rank) (s.at + w)

-- a component that is laid by few states has as many as it weighs
pub component_ends : (g : Grammar) → IsBuilt g → (weights : List ℕ) → AreWeights g weights → (n first next : ℕ) {own : List Arc} → n < g.nons → LaysComponent g n first own next → next ≤ suc heaviest → next ≡ first + get_or weights n 0
component_ends g built weights are n first next there lays few =
    let span = component_span g built lays in
    let once = component_once g built.proper.once (are.each n there) span.weighs in
    omega (arith, span.is, span.same, once)

pub left_room : (g : Grammar) → IsBuilt g → (weights : List ℕ) → AreWeights g weights → (bound n slot rank w : ℕ) (s : Spot) → bound ≤ suc heaviest → n < g.nons → Members g n n rank → w ≡ get_or weights n 0 → HasItemRoom g bound (Non n slot) s → IsLeft g bound n slot s rank w
left_room g built weights are bound n slot rank w s few there members e room = by_lays room.lays room.within
  where
    by_lays : {t m : ℕ} {xs : List Arc} → LaysItem g (Non n slot) s.before s.at xs t m → m ≤ bound → IsLeft g bound n slot s rank w
    by_lays {m = m} (lays_non {own = own} ms lays p q) within =
        let ends : m ≡ s.at + w = component_ends g built weights are n s.at m there lays (omega (arith, within, few)) ∙ ap (λ (k : ℕ). s.at + k) (sym e) in
        let here_lays : LaysComponent g n s.at own (s.at + w) = subst (λ (k : ℕ). LaysComponent g n s.at own k) ends lays in
        record {
          own = own;
          lays = here_lays;
          exit = exit_within g built here_lays members (here, here) there;
          within = omega (arith, ends, within);
          item = lays_non members here_lays refl refl;
        }

pub left_laid : (g : Grammar) → IsBuilt g → (weights : List ℕ) (old new : Graph) (ts us : List Task) (n slot rank w : ℕ) (s t : Spot) → n < g.nons → w ≡ get_or weights n 0 → IsLeft g (states old) n slot s rank w → NetGrows (pass s.before (entry_state s.at rank) ∷ []) old new → us ≡ ts ++ (record { non = n; at = s.at }) ∷ [] → t.before ≡ exit_state s.at rank → t.at ≡ s.at + w → IsItemLaid g weights (Non n slot) s old ts new us t
left_laid g built weights old new ts us n slot rank w s t there e left grows pushed before at =
    let task : Task = record { non = n; at = s.at } in
    let ends : s.at + w ≡ s.at + get_or weights n 0 = ap (λ (k : ℕ). s.at + k) e in
    let own : IsDone g weights left.own s.at (s.at + get_or weights n 0) new ts new (ts ++ task ∷ []) = done_task g weights built.proper.once new ts task left.own there (subst (λ (k : ℕ). LaysComponent g n s.at left.own k) ends left.lays) (omega (arith, left.within, grows.states, e)) in
    let both : IsDone g weights (pass s.before (entry_state s.at rank) ∷ left.own) s.at (s.at + get_or weights n 0) old ts new (ts ++ task ∷ []) = done_then (done_grows g weights ts (omega arith) grows) own in
    record {
      arcs = pass s.before (entry_state s.at rank) ∷ left.own;
      lays = rw (before, at) left.item;
      low = omega (arith, before, left.exit, left.within);
      done = rw (at, ends, pushed) both;
    }

-- a nonterminal is laid alike, whichever slot it has
pub other_slot : {g : Grammar} {bound n slot : ℕ} {s : Spot} (other : ℕ) → HasItemRoom g bound (Non n slot) s → HasItemRoom g bound (Non n other) s
other_slot {g} {bound} {n} {slot} {s} other room = by_lays room.lays room.within
  where
    by_lays : {t m : ℕ} {xs : List Arc} → LaysItem g (Non n slot) s.before s.at xs t m → m ≤ bound → HasItemRoom g bound (Non n other) s
    by_lays {t = t} {m = m} {xs = xs} (lays_non ms lays p q) within = record { arcs = xs; after = t; next = m; lays = lays_non ms lays p q; within = within }
