-- Runs of automata that are put together.
use Rattle.std.proofs.Common.{◌≡◌, ◌∙◌, ℕ, ◌+◌, ◌<◌, List, [], ◌∷◌, ◌++◌, length, refl, sym, ap, subst, inl, inr, arith, append_assoc, length-append}
use Rattle.std.proofs.lemmas.List.{append-nil}
use Rattle.std.specs.List.{Contains}
use Rattle.xs_class.specs.Classes.{Has}
use Rattle.xs_regex.specs.declared.position.Position.{Position}
use Rattle.xs_regex.specs.Automaton.{HasAt, Leads, Runs, begins, goes, GoesOn, stays, steps, ClassesHaveMembers}
use Rattle.xs_class.proofs.Lists.{not_empty}
use Rattle.xs_regex.proofs.Rows.{at_split, at_within}

-- the steps of one automaton are those of another, at other positions
pub record Embeds (f : ℕ → ℕ) (p r : Position) : Type 0 where
  pub leads : (j k : ℕ) → Leads p j k → Leads r (f j) (f k)
  pub has : (k s : ℕ) → HasAt p k s → HasAt r (f k) s

pub run_moved : {f : ℕ → ℕ} {p r : Position} {w : List ℕ} {k : ℕ} → Embeds f p r → ((i : ℕ) → Contains p.first i → Contains r.first (f i)) → Runs p w k → Runs r w (f k)
run_moved {f} e starts (begins {k = k} s c h is) = begins s (starts k c) (e.has k s h) is
run_moved {f} e starts (goes {k = k} v j s run l h is) = goes v (f j) s (run_moved e starts run) (e.leads j k l) (e.has k s h) is

pub on_moved : {f : ℕ → ℕ} {p r : Position} {w : List ℕ} {j k : ℕ} → Embeds f p r → GoesOn p j w k → GoesOn r (f j) w (f k)
on_moved e stays = stays
on_moved {f} e (steps {j = j} k s v l h on is) = steps (f k) s v (e.leads j k l) (e.has k s h) (on_moved e on) is

-- a run goes on by another from where its first positions follow
pub run_after : {f : ℕ → ℕ} {q r : Position} {u v : List ℕ} {j k : ℕ} → Embeds f q r → Runs r u j → ((i : ℕ) → Contains q.first i → Leads r j (f i)) → Runs q v k → Runs r (u ++ v) (f k)
run_after {u = u} {j = j} e run starts (begins {k = k} s c h is) = goes u j s run (starts k c) (e.has k s h) (ap (λ (t : List ℕ). u ++ t) is)
run_after {f} {u = u} e run starts (goes {k = k} v i s more l h is) = goes (u ++ v) (f i) s (run_after e run starts more) (e.leads i k l) (e.has k s h) (ap (λ (t : List ℕ). u ++ t) is ∙ sym (append_assoc u v (s ∷ [])))

pub on_after : {p : Position} {u v : List ℕ} {i j k : ℕ} → GoesOn p i u j → GoesOn p j v k → GoesOn p i (u ++ v) k
on_after stays more = more
on_after {v = v} (steps k s t l h on is) more = steps k s (t ++ v) l h (on_after on more) (ap (λ (x : List ℕ). x ++ v) is)

-- a run, and what the automaton goes on by from there
pub run_on : {p : Position} {u v : List ℕ} {j k : ℕ} → Runs p u j → GoesOn p j v k → Runs p (u ++ v) k
run_on {u = u} run stays = let e : u ++ [] ≡ u = append-nil u in rw e run
run_on {u = u} {j = j} run (steps k s t l h on is) =
    let longer : Runs _ (u ++ s ∷ []) k = goes u j s run l h refl in
    let e : u ++ (s ∷ t) ≡ (u ++ s ∷ []) ++ t = sym (append_assoc u (s ∷ []) t) in
    rw (is, e) (run_on longer on)

-- where a run ends there is a position
pub run_within : {p : Position} {w : List ℕ} {k : ℕ} → Runs p w k → k < length p.classes
run_within {p} (begins {k = k} s c h is) = at_within (λ class. Has class s) p.classes k h
run_within {p} (goes {k = k} v j s run l h is) = at_within (λ class. Has class s) p.classes k h

pub run_not_empty : {p : Position} {w : List ℕ} {k : ℕ} → Runs p w k → w ≡ [] → ⊥
run_not_empty (begins s c h is) e = cons_not_nil s (sym is ∙ e)
  where
    cons_not_nil : (s : ℕ) → s ∷ [] ≡ [] → ⊥
    cons_not_nil s e = cc
run_not_empty (goes v j s run l h is) e = push_not_nil s v (sym is ∙ e)
  where
    push_not_nil : (s : ℕ) (v : List ℕ) → v ++ s ∷ [] ≡ [] → ⊥
    push_not_nil s [] e = cc
    push_not_nil s (x ∷ v) e = cc

-- the classes of one automaton stand before those of another
pub has_left : (p q r : Position) → r.classes ≡ p.classes ++ q.classes → (k s : ℕ) → k < length p.classes → HasAt r k s → HasAt p k s
has_left p q r e k s l h = elim (at_split (λ class. Has class s) (length p.classes) p.classes q.classes k refl (rw e at h)) [
  | inl a ↦ a
  | inr b ↦ absurd (omega (arith, b.1))
]

pub has_right : (p q r : Position) → r.classes ≡ p.classes ++ q.classes → (k m s : ℕ) → k ≡ length p.classes + m → HasAt r k s → HasAt q m s
has_right p q r e k m s is h = elim (at_split (λ class. Has class s) (length p.classes) p.classes q.classes k refl (rw e at h)) [
  | inl a ↦ absurd (omega (arith, at_within (λ class. Has class s) p.classes k a))
  | inr b ↦ let same : b.0 ≡ m = omega (arith, b.1) in subst (λ x. HasAt q x s) same b.2
]

both_lengths : (p q r : Position) → r.classes ≡ p.classes ++ q.classes → length r.classes ≡ length p.classes + length q.classes
both_lengths p q r e = ap (λ (x : List (List (ℕ × ℕ))). length x) e ∙ length-append p.classes q.classes

pub members_left : (p q r : Position) → r.classes ≡ p.classes ++ q.classes → ClassesHaveMembers r → ClassesHaveMembers p
members_left p q r e m k l = let h = m k (omega (arith, both_lengths p q r e)) in (h.0, has_left p q r e k h.0 l h.1)

pub members_right : (p q r : Position) → r.classes ≡ p.classes ++ q.classes → ClassesHaveMembers r → ClassesHaveMembers q
members_right p q r e m k l = let h = m (length p.classes + k) (omega (arith, both_lengths p q r e)) in (h.0, has_right p q r e (length p.classes + k) k h.0 refl h.1)

-- an automaton goes by no empty word
pub no_run : (a : Position) (u : List ℕ) (k : ℕ) → u ≡ [] → Runs a u k → ⊥
no_run a _ _ e (begins s f c is) = not_empty [] s (sym e ∙ is)
no_run a _ _ e (goes v j s run l c is) = not_empty v s (sym e ∙ is)
