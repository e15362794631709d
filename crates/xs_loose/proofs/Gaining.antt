-- What a net and the tasks gain together.
use Rattle.std.proofs.Common.{◌≡◌, ◌⊎◌, ℕ, ◌+◌, ◌<◌, ◌≤◌, List, [], ◌∷◌, ◌++◌, get_or, refl, sym, ap, subst, ◌∙◌, inl, inr, arith}
use Rattle.std.specs.List.{Contains}
use Rattle.std.proofs.lemmas.List.Elements.{Contains-append_left, Contains-push, Contains-push_cases}
use Rattle.xs_auto.specs.Nets.{Graph, states}
use Rattle.xs_gram.specs.Grammar.{Grammar}
use Rattle.xs_gram.specs.Laws.{IsDistinct}
use Rattle.xs_gram.specs.Fences.{fence_symbols}
use Rattle.xs_loose.specs.declared.site.Task.{Task}
use Rattle.xs_loose.specs.Arcs.{Arc}
use Rattle.xs_loose.specs.Growth.{NetGrows}
use Rattle.xs_loose.specs.Laying.{LaysComponent}
use Rattle.xs_loose.specs.Work.{IsOfTask, Gains, work, IsTask, AreTasks, IsDone}
use Rattle.xs_loose.proofs.Growing.{grows_then}
use Rattle.xs_loose.proofs.Once.{component_once}

pub gains_grows : (g : Grammar) {arcs : List Arc} {n m : Graph} (ts : List Task) → NetGrows arcs n m → Gains g arcs n ts m ts
gains_grows g ts grows = record {
  states = grows.states;
  start = grows.start;
  finals = grows.finals;
  kept = λ x h. elim h [ inl net ↦ inl (grows.kept x net) | inr task ↦ inr task ];
  there = λ x h. inl (grows.there x h);
  only = λ x h. elim h [
    | inl net ↦ elim (grows.only x net) [ inl before ↦ inl (inl before) | inr own ↦ inr own ]
    | inr task ↦ inl (inr task)
  ];
}

-- one more task
pub of_more : (g : Grammar) (ts : List Task) (t : Task) (x : Arc) → IsOfTask g ts x → IsOfTask g (ts ++ t ∷ []) x
of_more g ts t x h = record { task = h.task; among = Contains-append_left ts (t ∷ []) h.task h.among; own = h.own; next = h.next; lays = h.lays; has = h.has }

pub of_last : (g : Grammar) (ts : List Task) (t : Task) (own : List Arc) (next : ℕ) → LaysComponent g t.non t.at own next → (x : Arc) → Contains own x → IsOfTask g (ts ++ t ∷ []) x
of_last g ts t own next lays x h = record { task = t; among = Contains-push ts t; own = own; next = next; lays = lays; has = h }

pub of_cases : (g : Grammar) → IsDistinct (fence_symbols g.fences) → (ts : List Task) (t : Task) (own : List Arc) (next : ℕ) → LaysComponent g t.non t.at own next → (x : Arc) → IsOfTask g (ts ++ t ∷ []) x → IsOfTask g ts x ⊎ Contains own x
of_cases g once ts t own next lays x h = elim (Contains-push_cases ts t h.task h.among) [
  | inl before ↦ inl (record { task = h.task; among = before; own = h.own; next = h.next; lays = h.lays; has = h.has })
  | inr last ↦
      let theirs : LaysComponent g t.non t.at h.own h.next = subst (λ (s : Task). LaysComponent g s.non s.at h.own h.next) (sym last) h.lays in
      inr (subst (λ (ys : List Arc). Contains ys x) (component_once g once theirs lays).0 h.has)
]

pub gains_task : (g : Grammar) → IsDistinct (fence_symbols g.fences) → (n : Graph) (ts : List Task) (t : Task) (own : List Arc) (next : ℕ) → LaysComponent g t.non t.at own next → Gains g own n ts n (ts ++ t ∷ [])
gains_task g once n ts t own next lays = record {
  states = refl;
  start = refl;
  finals = λ i. refl;
  kept = λ x h. elim h [ inl net ↦ inl net | inr task ↦ inr (of_more g ts t x task) ];
  there = λ x h. inr (of_last g ts t own next lays x h);
  only = λ x h. elim h [
    | inl net ↦ inl (inl net)
    | inr task ↦ elim (of_cases g once ts t own next lays x task) [ inl before ↦ inl (inr before) | inr here ↦ inr here ]
  ];
}

pub done_grows : (g : Grammar) (weights : List ℕ) {arcs : List Arc} {at next : ℕ} {n m : Graph} (ts : List Task) → at ≤ next → NetGrows arcs n m → IsDone g weights arcs at next n ts m ts
done_grows g weights ts le grows = record { gains = gains_grows g ts grows; tasks = λ h. h; less = omega (arith, le) }

pub done_then : {g : Grammar} {weights : List ℕ} {xs ys : List Arc} {a b c : ℕ} {l m n : Graph} {ls ms ns : List Task} → IsDone g weights xs a b l ls m ms → IsDone g weights ys b c m ms n ns → IsDone g weights (xs ++ ys) a c l ls n ns
done_then {g} {weights} {ms = ms} {ns = ns} first second = record {
  gains = grows_then first.gains second.gains;
  tasks = λ h. subst (λ (k : ℕ). AreTasks g weights k ns) first.gains.states (second.tasks (subst (λ (k : ℕ). AreTasks g weights k ms) (sym first.gains.states) (first.tasks h)));
  less = omega (arith, first.less, second.less);
}

work_push : (weights : List ℕ) (ts : List Task) (t : Task) → work weights (ts ++ t ∷ []) ≡ work weights ts + get_or weights t.non 0
work_push weights [] t = omega arith
work_push weights (s ∷ ts) t = omega (arith, work_push weights ts t)

pub work_pop : (weights : List ℕ) (all ts : List Task) (t : Task) → all ≡ ts ++ t ∷ [] → work weights all ≡ work weights ts + get_or weights t.non 0
work_pop weights all ts t e = ap (λ (xs : List Task). work weights xs) e ∙ work_push weights ts t

pub done_task : (g : Grammar) (weights : List ℕ) → IsDistinct (fence_symbols g.fences) → (n : Graph) (ts : List Task) (t : Task) (own : List Arc) → t.non < g.nons → LaysComponent g t.non t.at own (t.at + get_or weights t.non 0) → t.at + get_or weights t.non 0 ≤ states n → IsDone g weights own t.at (t.at + get_or weights t.non 0) n ts n (ts ++ t ∷ [])
done_task g weights once n ts t own there lays room = record {
  gains = gains_task g once n ts t own (t.at + get_or weights t.non 0) lays;
  tasks = λ h s among. elim (Contains-push_cases ts t s among) [
    | inl before ↦ h s before
    | inr last ↦ subst (λ (u : Task). IsTask g weights (states n) u) last (record { there = there; within = room })
  ];
  less = omega (arith, work_push weights ts t);
}

-- tasks without the last one
pub tasks_before : (g : Grammar) (weights : List ℕ) (bound : ℕ) (all ts : List Task) (t : Task) → all ≡ ts ++ t ∷ [] → AreTasks g weights bound all → AreTasks g weights bound ts × IsTask g weights bound t
tasks_before g weights bound all ts t e h =
    let own : AreTasks g weights bound (ts ++ t ∷ []) = subst (λ (xs : List Task). AreTasks g weights bound xs) e h in
    (λ s among. own s (Contains-append_left ts (t ∷ []) s among), own t (Contains-push ts t))
