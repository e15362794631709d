-- An automaton once or more: the words are made of its words.
use Rattle.std.proofs.Common.{◌≡◌, ◌⊎◌, ◌∙◌, ℕ, List, [], ◌∷◌, ◌++◌, length, refl, sym, ap, inl, inr, append_assoc}
use Rattle.std.proofs.lemmas.List.{append-nil}
use Rattle.std.specs.List.{Contains}
use Rattle.std.specs.Bool.{IsTrue}
use Rattle.xs_class.proofs.Lists.{front_empty}
use Rattle.xs_regex.specs.declared.position.Position.{Position}
use Rattle.xs_regex.specs.Automaton.{HasAt, Leads, Runs, begins, goes, Accepts, IsWellFormed}
use Rattle.xs_regex.specs.Matches.{joined, Each}
use Rattle.xs_regex.specs.Parts.{IsRound, optional, IsTrim}
use Rattle.xs_regex.proofs.Runs.{Embeds, run_moved, on_moved, run_after, run_not_empty}

pub joined-append : (us vs : List (List ℕ)) → joined (us ++ vs) ≡ joined us ++ joined vs
joined-append [] vs = refl
joined-append (u ∷ us) vs = ap (λ (x : List ℕ). u ++ x) (joined-append us vs) ∙ sym (append_assoc u (joined us) (joined vs))

pub each_append : (P : List ℕ → Type 0) (us vs : List (List ℕ)) → Each P us → Each P vs → Each P (us ++ vs)
each_append P [] vs a b = b
each_append P (u ∷ us) vs a b = (a.0, each_append P us vs a.1 b)

pub each_weaker : (P Q : List ℕ → Type 0) → ((u : List ℕ) → P u → Q u) → (us : List (List ℕ)) → Each P us → Each Q us
each_weaker P Q f [] a = tt
each_weaker P Q f (u ∷ us) a = (f u a.0, each_weaker P Q f us a.1)

round_embeds : {p r : Position} → IsRound p r → Embeds (λ k. k) p r
round_embeds {p} {r} t = record {
  leads = λ j k l. t.linked.kept j k l;
  has = λ k s h. rw t.classes h;
}

has_back : {p r : Position} → IsRound p r → (k s : ℕ) → HasAt r k s → HasAt p k s
has_back {p} {r} t k s h = rw t.classes at h

starts : {p r : Position} → IsRound p r → (k : ℕ) → Contains p.first k → Contains r.first k
starts {p} {r} t k c = rw t.first c

back_to : {p r : Position} → IsWellFormed p → IsRound p r → (j : ℕ) → Contains p.last j → (k : ℕ) → Contains p.first k → Leads r j k
back_to {p} {r} f t j c k d = t.linked.linked j k (rw f.rows (f.last_in j c)) c d

-- whole words, and the run of the one that is being read
record IsWithin (p : Position) (w : List ℕ) (k : ℕ) : Type 0 where
  words : List (List ℕ)
  rest : List ℕ
  word_is : w ≡ joined words ++ rest
  accepted : Each (Accepts p) words
  run : Runs p rest k

round_run : {p r : Position} {w : List ℕ} {k : ℕ} → IsRound p r → Runs r w k → IsWithin p w k
round_run {p} {r} {w} t (begins {k = k} s c h is) = record {
  words = [];
  rest = w;
  word_is = refl;
  accepted = tt;
  run = begins s (rw t.first at c) (has_back t k s h) is;
}
round_run {p} {r} {w} t (goes {k = k} v j s run l h is) =
    let before = round_run t run in
    elim (t.linked.only j k l) [
      | inl a ↦ record {
        words = before.words;
        rest = before.rest ++ s ∷ [];
        word_is = is ∙ ap (λ (x : List ℕ). x ++ s ∷ []) before.word_is ∙ append_assoc (joined before.words) before.rest (s ∷ []);
        accepted = before.accepted;
        run = goes before.rest j s before.run a (has_back t k s h) refl;
      }
      | inr b ↦ record {
        words = before.words ++ before.rest ∷ [];
        rest = s ∷ [];
        word_is = is ∙ ap (λ (x : List ℕ). x ++ s ∷ []) (before.word_is ∙ sym (one_more before.words before.rest));
        accepted = each_append (Accepts p) before.words (before.rest ∷ []) before.accepted (inr (j, before.run, b.0), tt);
        run = begins s b.1 (has_back t k s h) refl;
      }
    ]
  where
    one_more : (ws : List (List ℕ)) (u : List ℕ) → joined (ws ++ u ∷ []) ≡ joined ws ++ u
    one_more ws u = joined-append ws (u ∷ []) ∙ ap (λ (x : List ℕ). joined ws ++ x) (append-nil u)

-- words that are accepted, one after another, are empty altogether or run to a last position
round_words : {p r : Position} → IsWellFormed p → IsRound p r → (ws : List (List ℕ)) → Each (Accepts p) ws → (joined ws ≡ []) ⊎ ((k : ℕ) × Runs r (joined ws) k × Contains p.last k)
round_words f t [] a = inl refl
round_words {p} {r} f t (w ∷ ws) (inl a, rest) =
    let e : w ++ joined ws ≡ joined ws = ap (λ (x : List ℕ). x ++ joined ws) a.0 in
    rw e (round_words f t ws rest)
round_words {p} {r} f t (w ∷ ws) (inr a, rest) = elim (round_words f t ws rest) [
  | inl e ↦
      let whole : w ++ joined ws ≡ w = ap (λ (x : List ℕ). w ++ x) e ∙ append-nil w in
      rw whole (inr (a.0, run_moved (round_embeds t) (starts t) a.1, a.2))
  | inr h ↦ inr (h.0, after (run_moved (round_embeds t) (starts t) a.1) a.2 h.1, h.2)
]
  where
    -- a run of the round from where another can begin again
    after : {u v : List ℕ} {j k : ℕ} → Runs r u j → Contains p.last j → Runs r v k → Runs r (u ++ v) k
    after {j = j} run last more = run_after {f = λ x. x} {q = r} {r = r} record { leads = λ i k l. l; has = λ k s h. h } run (λ i c. back_to f t j last i (rw t.first at c)) more

-- the words of the round: one or more words of the automaton, one after another
pub round_sound : {p r : Position} {w : List ℕ} → IsRound p r → Accepts r w → (u : List ℕ) × (us : List (List ℕ)) × (w ≡ u ++ joined us) × Accepts p u × Each (Accepts p) us
round_sound {p} {r} t (inl e) = ([], [], e.0, inl (refl, rw t.nullable at e.1), tt)
round_sound {p} {r} {w} t (inr a) =
    let h = round_run t a.1 in
    first_of_all h.words h.rest h.accepted (inr (a.0, h.run, rw t.last at a.2)) h.word_is
  where
    first_of_all : (ws : List (List ℕ)) (v : List ℕ) → Each (Accepts p) ws → Accepts p v → w ≡ joined ws ++ v → (u : List ℕ) × (us : List (List ℕ)) × (w ≡ u ++ joined us) × Accepts p u × Each (Accepts p) us
    first_of_all [] v a b e = (v, [], e ∙ sym (append-nil v), b, tt)
    first_of_all (u ∷ us) v a b e =
        (u, us ++ v ∷ [], e ∙ append_assoc u (joined us) v ∙ ap (λ (x : List ℕ). u ++ x) (sym (joined-append us (v ∷ []) ∙ ap (λ (x : List ℕ). joined us ++ x) (append-nil v))), a.0, each_append (Accepts p) us (v ∷ []) a.1 (b, tt))

pub round_complete : {p r : Position} {u : List ℕ} → IsWellFormed p → IsRound p r → (us : List (List ℕ)) → Accepts p u → Each (Accepts p) us → Accepts r (u ++ joined us)
round_complete {p} {r} {u} f t us a b = elim (round_words f t (u ∷ us) (a, b)) [
  | inl e ↦ inl (e, rw t.nullable (empty_front a (front_empty u (joined us) e)))
  | inr h ↦ inr (h.0, h.1, rw t.last h.2)
]
  where
    empty_front : {x : List ℕ} → Accepts p x → x ≡ [] → IsTrue p.nullable
    empty_front (inl h) e = h.1
    empty_front (inr h) e = absurd (run_not_empty h.1 e)

pub round_formed : {p r : Position} → IsWellFormed p → IsRound p r → IsWellFormed r
round_formed {p} {r} f t = record {
  rows = t.linked.rows ∙ f.rows ∙ ap (λ (x : List (List (ℕ × ℕ))). length x) (sym t.classes);
  first_in = λ k c. rw t.classes (f.first_in k (rw t.first at c));
  last_in = λ k c. rw t.classes (f.last_in k (rw t.last at c));
  follow_in = λ j k l. rw t.classes (elim (t.linked.only j k l) [
    | inl h ↦ f.follow_in j k h
    | inr h ↦ f.first_in k h.1
  ]);
}

pub round_trim : {p r : Position} → IsRound p r → IsTrim p → IsTrim r
round_trim {p} {r} t a = record {
  ends = λ k l. let h = a.ends k (rw t.classes at l) in (h.0, h.1, on_moved (round_embeds t) h.2, rw t.last h.3);
  lives = elim a.lives [
    | inl n ↦ inl (rw t.nullable n)
    | inr h ↦ inr (h.0, starts t h.0 h.1)
  ];
}

-- the same automaton, which also accepts the empty word
pub optional_run : {p : Position} {w : List ℕ} {k : ℕ} → Runs p w k → Runs (optional p) w k
optional_run run = run_moved {f = λ x. x} record { leads = λ i k l. l; has = λ k s h. h } (λ i c. c) run

pub run_optional : {p : Position} {w : List ℕ} {k : ℕ} → Runs (optional p) w k → Runs p w k
run_optional {p} run = run_moved {f = λ x. x} {p = optional p} {r = p} record { leads = λ i k l. l; has = λ k s h. h } (λ i c. c) run

pub optional_sound : {p : Position} {w : List ℕ} → Accepts (optional p) w → (w ≡ []) ⊎ Accepts p w
optional_sound (inl e) = inl e.0
optional_sound {p} (inr a) = inr (inr (a.0, run_optional {p = p} a.1, a.2))

pub optional_complete : {p : Position} {w : List ℕ} → (w ≡ []) ⊎ Accepts p w → Accepts (optional p) w
optional_complete (inl e) = inl (e, refl)
optional_complete (inr (inl e)) = inl (e.0, refl)
optional_complete {p} (inr (inr a)) = inr (a.0, optional_run {p = p} a.1, a.2)

pub optional_formed : {p : Position} → IsWellFormed p → IsWellFormed (optional p)
optional_formed f = record { rows = f.rows; first_in = f.first_in; last_in = f.last_in; follow_in = f.follow_in }

pub optional_trim : {p : Position} → IsTrim p → IsTrim (optional p)
optional_trim {p} a = record {
  ends = λ k l. let h = a.ends k l in (h.0, h.1, on_moved {f = λ x. x} {p = p} {r = optional p} record { leads = λ i k l. l; has = λ k s h. h } h.2, h.3);
  lives = inl refl;
}
