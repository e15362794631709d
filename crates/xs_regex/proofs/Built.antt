-- The automata of the forms of a regular expression.
use Rattle.std.proofs.Common.{◌≡◌, ◌⊎◌, ◌∙◌, ℕ, zero, suc, ◌+◌, Bool, true, false, List, [], ◌∷◌, ◌++◌, refl, sym, subst, inl, inr, arith, None}
use Rattle.std.specs.List.{Contains}
use Rattle.std.specs.Bool.{IsTrue}
use Rattle.std.specs.declared.option.Option.{Option}
use Rattle.xs_class.specs.Classes.{Has}
use Rattle.xs_regex.specs.declared.position.Position.{Position}
use Rattle.xs_regex.specs.Automaton.{HasAt, Leads, Runs, begins, goes, Accepts, stays, IsWellFormed, ClassesHaveMembers}
use Rattle.xs_regex.specs.Matches.{joined, Each, AtMost, Repeats}
use Rattle.xs_regex.specs.Parts.{bare, of_class, optional, IsThen, IsEither, IsRound, IsTrim, IsAutomaton}
use Rattle.xs_regex.specs.Size.{times}
use Rattle.xs_regex.proofs.Rows.{contains_nil, contains_one}
use Rattle.xs_regex.proofs.Runs.{run_within, members_left, members_right}
use Rattle.xs_regex.proofs.Sequence.{then_sound, then_complete, then_formed, then_trim}
use Rattle.xs_regex.proofs.Choice.{either_sound, either_complete, either_formed, either_trim}
use Rattle.xs_regex.proofs.Repetition.{round_sound, round_complete, round_formed, round_trim, optional_sound, optional_complete, optional_formed, optional_trim, each_weaker}
use Rattle.xs_regex.proofs.Words.{one_more, fewer, first_word, none_or_first}
use Rattle.xs_class.proofs.Lists.{one_contains}

-- the same words, classes and condition, stated otherwise
pub restated : {V W : List ℕ → Type 0} {c d : List (List (ℕ × ℕ))} {S T : Type 0} {p : Position} → ((w : List ℕ) → V w → W w) → ((w : List ℕ) → W w → V w) → c ≡ d → (T → S) → IsAutomaton V c S p → IsAutomaton W d T p
restated to back e sure a = record {
  formed = a.formed;
  sound = λ w h. to w (a.sound w h);
  complete = λ w h. a.complete w (back w h);
  classes_are = a.classes_are ∙ e;
  trim = λ t m. a.trim (sure t) m;
}

-- an automaton of no position
pub no_run : {p : Position} {w : List ℕ} {k : ℕ} → p.classes ≡ [] → Runs p w k → ⊥
no_run e run = let l = rw e at (run_within run) in omega (arith, l)

pub of_bare : (Word : List ℕ → Type 0) (Sure : Type 0) (b : Bool) → (IsTrue b → Word []) → ((w : List ℕ) → Word w → (w ≡ []) × IsTrue b) → (Sure → IsTrue b) → IsAutomaton Word [] Sure (bare b)
of_bare Word Sure b to back sure = record {
  formed = record {
    rows = refl;
    first_in = λ k c. absurd (contains_nil k c);
    last_in = λ k c. absurd (contains_nil k c);
    follow_in = λ j k l. absurd l;
  };
  sound = λ w a. accepted w a;
  complete = λ w h. let e = back w h in inl (e.0, e.1);
  classes_are = refl;
  trim = λ s m. record { ends = λ k l. absurd (omega (arith, l)); lives = inl (sure s) };
}
  where
    accepted : (w : List ℕ) → Accepts (bare b) w → Word w
    accepted w (inl a) = rw a.0 (to a.1)
    accepted w (inr a) = absurd (no_run {p = bare b} refl a.1)

pub empty_is : (Sure : Type 0) → IsAutomaton (λ w. w ≡ []) [] Sure (bare true)
empty_is Sure = of_bare (λ w. w ≡ []) Sure true (λ t. refl) (λ w e. (e, refl)) (λ s. refl)

pub no_lead : (class : List (ℕ × ℕ)) (j k : ℕ) → Leads (of_class class) j k → ⊥
no_lead class zero k l = contains_nil k l
no_lead class (suc j) k l = l

has_one : (class : List (ℕ × ℕ)) (k s : ℕ) → HasAt (of_class class) k s → Has class s
has_one class zero s h = h
has_one class (suc k) s h = absurd h

pub class_is : (class : List (ℕ × ℕ)) (Sure : Type 0) → IsAutomaton (λ w. (s : ℕ) × Has class s × (w ≡ s ∷ [])) (class ∷ []) Sure (of_class class)
class_is class Sure = record {
  formed = record {
    rows = refl;
    first_in = λ k c. omega (arith, contains_one 0 k c);
    last_in = λ k c. omega (arith, contains_one 0 k c);
    follow_in = λ j k l. absurd (no_lead class j k l);
  };
  sound = λ w a. accepted w a;
  complete = λ w h. inr (0, begins h.0 (one_contains 0) h.1 h.2, one_contains 0);
  classes_are = refl;
  trim = λ s m. record {
    ends = λ k l. let e : k ≡ 0 = omega (arith, l) in ([], k, stays, subst (λ x. Contains (0 ∷ []) x) (sym e) (one_contains 0));
    lives = inr (0, one_contains 0);
  };
}
  where
    ran : {w : List ℕ} {k : ℕ} → Runs (of_class class) w k → (s : ℕ) × Has class s × (w ≡ s ∷ [])
    ran (begins {k = k} s c h is) = (s, has_one class k s h, is)
    ran (goes {k = k} v j s run l h is) = absurd (no_lead class j k l)

    accepted : (w : List ℕ) → Accepts (of_class class) w → (s : ℕ) × Has class s × (w ≡ s ∷ [])
    accepted w (inl a) = absurd (false_not_true a.1)
      where
        false_not_true : IsTrue false → ⊥
        false_not_true e = cc
    accepted w (inr a) = ran a.1

pub then_is : {V W : List ℕ → Type 0} {c d : List (List (ℕ × ℕ))} {S T : Type 0} {p q r : Position} → IsAutomaton V c S p → IsAutomaton W d T q → IsThen p q r → IsAutomaton (λ w. (u : List ℕ) × (v : List ℕ) × (w ≡ u ++ v) × V u × W v) (c ++ d) (S × T) r
then_is {p = p} {q = q} {r = r} a b t = record {
  formed = then_formed a.formed b.formed t;
  sound = λ w h. let x = then_sound a.formed t h in (x.0, x.1, x.2, a.sound x.0 x.3, b.sound x.1 x.4);
  complete = λ w h. rw h.2 (then_complete a.formed t (a.complete h.0 h.3) (b.complete h.1 h.4));
  classes_are = rw (t.classes, a.classes_are, b.classes_are) refl;
  trim = λ s m. then_trim a.formed b.formed t m (a.trim s.0 (members_left p q r t.classes m)) (b.trim s.1 (members_right p q r t.classes m));
}

pub either_is : {V W : List ℕ → Type 0} {c d : List (List (ℕ × ℕ))} {S T : Type 0} {p q r : Position} → IsAutomaton V c S p → IsAutomaton W d T q → IsEither p q r → IsAutomaton (λ w. V w ⊎ W w) (c ++ d) (S × T) r
either_is {p = p} {q = q} {r = r} a b t = record {
  formed = either_formed a.formed b.formed t;
  sound = λ w h. elim (either_sound a.formed t h) [ inl x ↦ inl (a.sound w x) | inr x ↦ inr (b.sound w x) ];
  complete = λ w h. either_complete a.formed t (elim h [ inl x ↦ inl (a.complete w x) | inr x ↦ inr (b.complete w x) ]);
  classes_are = rw (t.classes, a.classes_are, b.classes_are) refl;
  trim = λ s m. either_trim a.formed t (a.trim s.0 (members_left p q r t.classes m)) (b.trim s.1 (members_right p q r t.classes m));
}

-- one word or more
pub round_is : {V : List ℕ → Type 0} {c : List (List (ℕ × ℕ))} {S : Type 0} {p r : Position} → IsAutomaton V c S p → IsRound p r → IsAutomaton (λ w. Repeats V 1 None w) c S r
round_is {V} {p = p} {r = r} a t = record {
  formed = round_formed a.formed t;
  sound = λ w h. let x = round_sound t h in (x.0 ∷ x.1, x.2, (a.sound x.0 x.3, each_weaker (Accepts p) V a.sound x.1 x.4), omega arith, tt);
  complete = λ w h. let x = first_word V 0 None None w (λ k m. tt) h in rw (x.2, x.4.1) (round_complete a.formed t x.4.0 (a.complete x.0 x.3) (each_weaker V (Accepts p) a.complete x.4.0 x.4.2));
  classes_are = t.classes ∙ a.classes_are;
  trim = λ s m. round_trim t (a.trim s (rw t.classes at m));
}

pub optional_is : {V : List ℕ → Type 0} {c : List (List (ℕ × ℕ))} {S : Type 0} {p : Position} → IsAutomaton V c S p → IsAutomaton (λ w. (w ≡ []) ⊎ V w) c S (optional p)
optional_is {p = p} a = record {
  formed = optional_formed a.formed;
  sound = λ w h. elim (optional_sound {p = p} h) [ inl x ↦ inl x | inr x ↦ inr (a.sound w x) ];
  complete = λ w h. optional_complete {p = p} (elim h [ inl x ↦ inl x | inr x ↦ inr (a.complete w x) ]);
  classes_are = a.classes_are;
  trim = λ s m. optional_trim (a.trim s m);
}

-- any number of words
pub any_number : (V : List ℕ → Type 0) (w : List ℕ) → (w ≡ []) ⊎ Repeats V 1 None w → Repeats V 0 None w
any_number V w (inl e) = ([], e, tt, omega arith, tt)
any_number V w (inr h) = fewer V 1 0 None w (omega arith) h

pub number_any : (V : List ℕ → Type 0) (w : List ℕ) → Repeats V 0 None w → (w ≡ []) ⊎ Repeats V 1 None w
number_any V w h = elim (none_or_first V None None w (λ k m. tt) h) [
  | inl e ↦ inl e
  | inr x ↦ inr (rw x.2 (one_more V 0 None None x.0 x.1 (λ k m. tt) x.3 x.4))
]

pub star_is : {V : List ℕ → Type 0} {c : List (List (ℕ × ℕ))} {S : Type 0} {p r : Position} → IsAutomaton V c S p → IsRound p r → IsAutomaton (λ w. (ws : List (List ℕ)) × (w ≡ joined ws) × Each V ws) c S (optional r)
star_is {V} a t = restated (λ w h. let x = any_number V w h in (x.0, x.1, x.2)) (λ w h. number_any V w (h.0, h.1, h.2, omega arith, tt)) refl (λ s. s) (optional_is (round_is a t))

-- what is repeated is its own automaton
pub itself : (p : Position) → IsWellFormed p → IsAutomaton (Accepts p) p.classes (ClassesHaveMembers p → IsTrim p) p
itself p f = record { formed = f; sound = λ w h. h; complete = λ w h. h; classes_are = refl; trim = λ s m. s m }

-- one copy more, after which at least that many were wanted
pub copy_is : (one all r : Position) (least : ℕ) (most more : Option ℕ) (n : ℕ) (S : Type 0) → ((k : ℕ) → AtMost k most → AtMost (suc k) more) → ((k : ℕ) → AtMost (suc k) more → AtMost k most) → (S → ClassesHaveMembers one → IsTrim one) → IsWellFormed one → IsAutomaton (Repeats (Accepts one) least most) (times n one.classes) S all → IsThen one all r → IsAutomaton (Repeats (Accepts one) (least + 1) more) (times (suc n) one.classes) S r
copy_is one all r least most more n S up down sure f a t =
    restated (λ w h. rw h.2 (one_more (Accepts one) least most more h.0 h.1 up h.3 h.4)) (λ w h. first_word (Accepts one) least most more w down h) refl (λ s. (sure s, s)) (then_is (itself one f) a t)

-- one copy more, which may be left out with all after it
pub free_copy_is : (one all r : Position) (most more : Option ℕ) (n : ℕ) (S : Type 0) → ((k : ℕ) → AtMost k most → AtMost (suc k) more) → ((k : ℕ) → AtMost (suc k) more → AtMost k most) → AtMost 0 more → (S → ClassesHaveMembers one → IsTrim one) → IsWellFormed one → IsAutomaton (Repeats (Accepts one) 0 most) (times n one.classes) S all → IsThen one all r → IsAutomaton (Repeats (Accepts one) 0 more) (times (suc n) one.classes) S (optional r)
free_copy_is one all r most more n S up down none sure f a t =
    restated (λ w h. some w h) (λ w h. none_or_first (Accepts one) most more w down h) refl (λ s. (sure s, s)) (optional_is (then_is (itself one f) a t))
  where
    some : (w : List ℕ) → (w ≡ []) ⊎ ((u : List ℕ) × (v : List ℕ) × (w ≡ u ++ v) × Accepts one u × Repeats (Accepts one) 0 most v) → Repeats (Accepts one) 0 more w
    some w (inl e) = ([], e, tt, omega arith, none)
    some w (inr h) = rw h.2 (fewer (Accepts one) 1 0 more (h.0 ++ h.1) (omega arith) (one_more (Accepts one) 0 most more h.0 h.1 up h.3 h.4))
