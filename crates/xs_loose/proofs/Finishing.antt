-- Nets that are finished: from bare states, by doing one task after another, to the net of a part.
use Rattle.std.proofs.Common.{◌≡◌, ◌⊎◌, ℕ, suc, ◌+◌, ◌<◌, ◌≤◌, true, false, List, [], ◌∷◌, ◌++◌, refl, sym, subst, ◌∙◌, inl, inr, arith, append-nil, None, Some}
use Rattle.std.specs.List.{Contains}
use Rattle.std.proofs.lemmas.Bool.{cases_eq}
use Rattle.xs_auto.specs.declared.call.Call.{Call}
use Rattle.xs_auto.specs.Edges.{Edge}
use Rattle.xs_auto.specs.Nets.{Graph, states, final_at, edges_of, moves_of, calls_of, AddsState, SetsFinal}
use Rattle.xs_gram.specs.declared.parts.GItem.{GItem}
use Rattle.xs_gram.specs.Grammar.{Grammar}
use Rattle.xs_gram.specs.Laws.{IsDistinct}
use Rattle.xs_gram.specs.Fences.{fence_symbols}
use Rattle.xs_gram.specs.Sound.{IsBuilt}
use Rattle.xs_check_laws.specs.Weights.{heaviest, PartWeighs}
use Rattle.xs_check_laws.proofs.Weights.{part_weighs_once}
use Rattle.xs_loose.specs.declared.part.Part.{Part}
use Rattle.xs_loose.specs.declared.site.Spot.{Spot}
use Rattle.xs_loose.specs.declared.site.Task.{Task}
use Rattle.xs_loose.specs.Arcs.{Label, reads, passes, calls, Arc, read, pass, call}
use Rattle.xs_loose.specs.Growth.{HasLabel, HasArc}
use Rattle.xs_loose.specs.Laying.{LaysPart}
use Rattle.xs_loose.specs.Making.{IsBlank, IsTaskDone}
use Rattle.xs_loose.specs.Nets.{IsNetOf, HasItsWeight}
use Rattle.xs_loose.specs.Parts.{part_items, IsPart}
use Rattle.xs_loose.specs.Walking.{HasRoom, AreAllLaid}
use Rattle.xs_loose.specs.Work.{IsOfTask, Holds, Gains, work}
use Rattle.xs_loose.proofs.Gaining.{of_more, of_last, of_cases, work_pop}
use Rattle.xs_loose.proofs.Growing.{grows_then}
use Rattle.xs_loose.proofs.Laid.{PartLaid, part_laid, stretch_named}
use Rattle.xs_loose.proofs.Spans.{part_span}
use Rattle.xs_loose.proofs.Stretches.{part_stretch}

-- bare states
pub blank_none : IsBlank 0 (record { start = None; nodes = [] })
blank_none = record { states = refl; finals = λ a. refl; edges = λ a. refl; moves = λ a. refl; calls = λ a. refl }

pub blank_more : (count : ℕ) (old new : Graph) → AddsState old new → IsBlank count old → IsBlank (count + 1) new
blank_more count old new adds was = record {
  states = omega (arith, adds.states, was.states);
  finals = λ a. adds.finals a ∙ was.finals a;
  edges = λ a. adds.edges a ∙ was.edges a;
  moves = λ a. adds.moves a ∙ was.moves a;
  calls = λ a. adds.calls a ∙ was.calls a;
}

pub blank_start : (count a : ℕ) (old new : Graph) → new ≡ record old { start = Some a } → IsBlank count old → IsBlank count new
blank_start count a old new e was = rw e (record { states = was.states; finals = was.finals; edges = was.edges; moves = was.moves; calls = was.calls })

none_in : {A : Type 0} (xs : List A) (x : A) → xs ≡ [] → Contains xs x → ⊥
none_in [] x e h = omega (arith, h.1)
none_in (y ∷ xs) x e h = cc

blank_label : (count : ℕ) (n : Graph) → IsBlank count n → (a : ℕ) (l : Label) (b : ℕ) → HasLabel n a l b → ⊥
blank_label count n blank a (reads class) b h = none_in (edges_of n a) (record { class = class; to = b }) (blank.edges a) h
blank_label count n blank a passes b h = none_in (moves_of n a) b (blank.moves a) h
blank_label count n blank a (calls group) b h = none_in (calls_of n a) (record { group = group; to = b }) (blank.calls a) h

no_task : (g : Grammar) (x : Arc) → IsOfTask g [] x → ⊥
no_task g x h = omega (arith, h.among.1)

-- the last task was done
module _ (g : Grammar) (weights : List ℕ) (once : IsDistinct (fence_symbols g.fences)) (n m : Graph) (all ts us : List Task) (t : Task) (popped : all ≡ ts ++ t ∷ []) (done : IsTaskDone g weights t n ts m us) where
  to_own : (x : Arc) → Holds g n all x → Holds g n ts x ⊎ Contains done.own x
  to_own x h = elim h [
    | inl net ↦ inl (inl net)
    | inr task ↦ elim (of_cases g once ts t done.own done.next done.lays x (subst (λ (xs : List Task). IsOfTask g xs x) popped task)) [
      | inl before ↦ inl (inr before)
      | inr own ↦ inr own
    ]
  ]

  from_before : (x : Arc) → Holds g n ts x → Holds g n all x
  from_before x h = elim h [
    | inl net ↦ inl net
    | inr task ↦ inr (subst (λ (xs : List Task). IsOfTask g xs x) (sym popped) (of_more g ts t x task))
  ]

  from_own : (x : Arc) → Contains done.own x → Holds g n all x
  from_own x h = inr (subst (λ (xs : List Task). IsOfTask g xs x) (sym popped) (of_last g ts t done.own done.next done.lays x h))

  -- the net and the tasks have the arcs that they had
  pub gains_popped : Gains g [] n all m us
  unfolding to_own from_before from_own
  gains_popped = record {
    states = done.gains.states;
    start = done.gains.start;
    finals = done.gains.finals;
    kept = λ x h. elim (to_own x h) [ inl before ↦ done.gains.kept x before | inr own ↦ done.gains.there x own ];
    there = λ x h. absurd (omega (arith, h.1));
    only = λ x h. elim (done.gains.only x h) [ inl before ↦ inl (from_before x before) | inr own ↦ inl (from_own x own) ];
  }

  pub less_work : work weights us < work weights all
  less_work = omega (arith, done.less, work_pop weights all ts t popped)

-- a part that is light has room in a net of one state more
pub part_room : (g : Grammar) → IsBuilt g → (part : Part) → IsPart g part → (weight bound : ℕ) → PartWeighs g (part_items g part) weight → weight ≤ heaviest → bound ≡ suc weight → HasRoom g bound None part.rule part.start (part_items g part) (record { before = 0; at = 1 })
part_room g built part is weight bound weighs light e =
    let items = part_items g part in
    let laid : PartLaid g part.rule part.start items 0 1 (1 + weight) = part_laid g built weighs (omega (arith, light)) (stretch_named g built.range part.rule part.start items (part_stretch g part is)) part.rule part.start 0 1 in
    record { arcs = laid.arcs; after = laid.after; next = 1 + weight; lays = laid.is; within = omega (arith, e) }

-- The net of a part: its items were laid in a blank net, the tasks that this left were done, and the
-- state after them was made final.
module _ (g : Grammar) (built : IsBuilt g) (weights : List ℕ) (part : Part) (is : IsPart g part) (weight : ℕ) (weighs : PartWeighs g (part_items g part) weight) (light : weight ≤ heaviest) (bare laid full net : Graph) (tasks : List Task) (spot : Spot) (blank : IsBlank (suc weight) bare) (start : bare.start ≡ Some 0) (all : AreAllLaid g weights None part.rule part.start (part_items g part) (record { before = 0; at = 1 }) bare [] laid tasks spot) (gains : Gains g [] laid tasks full []) (sets : SetsFinal full net spot.before) where
  both : Gains g (all.arcs ++ []) bare [] full []
  both = grows_then all.done.gains gains

  arcs_there : (x : Arc) → Contains all.arcs x → HasArc full x
  unfolding both
  arcs_there x h = elim (both.there x (subst (λ (xs : List Arc). Contains xs x) (sym (append-nil all.arcs)) h)) [
    | inl arc ↦ arc
    | inr task ↦ absurd (no_task g x task)
  ]

  arcs_only : (x : Arc) → HasArc full x → Contains all.arcs x
  unfolding both
  arcs_only x h = elim (both.only x (inl h)) [
    | inl before ↦ elim before [
      | inl arc ↦ absurd (blank_label (suc weight) bare blank x.from x.label x.to arc)
      | inr task ↦ absurd (no_task g x task)
    ]
    | inr own ↦ subst (λ (xs : List Arc). Contains xs x) (append-nil all.arcs) own
  ]

  pub net_states : states net ≡ suc weight
  unfolding both
  net_states = sets.states ∙ both.states ∙ blank.states

  ends : spot.at ≡ suc weight
  ends =
      let span = part_span g built all.lays (stretch_named g built.range part.rule part.start (part_items g part) (part_stretch g part is)) in
      let same : span.weight ≡ weight = part_weighs_once g built.proper.once (part_items g part) span.weight weight span.weighs weighs in
      omega (arith, span.is, span.same, same, light)

  final_only : (a : ℕ) → final_at net a ≡ true → a ≡ spot.before
  unfolding both
  final_only a h = elim (cases_eq a spot.before) [
    | inl e ↦ e
    | inr ne ↦ let not : final_at net a ≡ false = sets.others a ne ∙ both.finals a ∙ blank.finals a in absurd cc
  ]

  pub net_numbered : IsNetOf g part net
  unfolding both arcs_there arcs_only net_states ends final_only
  net_numbered = record {
    arcs = all.arcs;
    last = spot.before;
    lays = subst (λ (k : ℕ). LaysPart g part.rule part.start (part_items g part) 0 1 all.arcs spot.before k) (ends ∙ sym net_states) all.lays;
    start = sets.start ∙ both.start ∙ start;
    finals = λ a. (final_only a, λ e. subst (λ (k : ℕ). final_at net k ≡ true) (sym e) sets.final);
    edges = λ a e. (
      λ h. arcs_only (read a e.class e.to) (subst (λ (es : List Edge). Contains es e) (sets.edges a) h),
      λ h. subst (λ (es : List Edge). Contains es e) (sym (sets.edges a)) (arcs_there (read a e.class e.to) h),
    );
    moves = λ a b. (
      λ h. arcs_only (pass a b) (subst (λ (ms : List ℕ). Contains ms b) (sets.moves a) h),
      λ h. subst (λ (ms : List ℕ). Contains ms b) (sym (sets.moves a)) (arcs_there (pass a b) h),
    );
    calls = λ a k. (
      λ h. arcs_only (call a k.group k.to) (subst (λ (ks : List Call). Contains ks k) (sets.calls a) h),
      λ h. subst (λ (ks : List Call). Contains ks k) (sym (sets.calls a)) (arcs_there (call a k.group k.to) h),
    );
  }

pub its_weight : (g : Grammar) (items : List GItem) (n : Graph) (weight : ℕ) → PartWeighs g items weight → weight ≤ heaviest → states n ≡ suc weight → HasItsWeight g items n
its_weight g items n weight weighs light e = record { weight = weight; weighs = weighs; light = light; states = e }
