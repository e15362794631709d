-- The copies of a repetition, added from the last to the first.
use Rattle.std.proofs.Common.{◌≡◌, ◌⊎◌, ◌∙◌, ◌↔◌, ℕ, suc, ◌+◌, ◌-◌, ◌*◌, ◌<◌, ◌≤◌, Bool, true, false, List, [], ◌∷◌, ◌++◌, length, refl, sym, ap, subst, inl, inr, arith, None, Some, min, max, nat_eq, nat_lt, nat_le, if◌then◌else◌}
use Rattle.std.proofs.lemmas.List.{append-nil}
use Rattle.std.proofs.lemmas.Bool.{ltb-true, ltb-false, leb-true, le-leb}
use Rattle.std.proofs.lemmas.Bool.Decides.{eqb_tells}
use Rattle.std.proofs.Math.Nat.{mul-le-mul_left}
use Rattle.std.specs.Bool.{IsTrue}
use Rattle.std.specs.declared.option.Option.{Option}
use Rattle.xs_regex.specs.declared.position.Position.{Position}
use Rattle.xs_regex.specs.Automaton.{Accepts, IsWellFormed}
use Rattle.xs_regex.specs.Matches.{joined, Each, AtMost, Repeats}
use Rattle.xs_regex.specs.Parts.{bare, optional, CanJoin, IsThen, IsRound, IsAutomaton, IsSure}
use Rattle.xs_regex.specs.Size.{times, copies, IsInOrder}
use Rattle.xs_regex.proofs.Repetition.{each_weaker}
use Rattle.xs_regex.proofs.Words.{all_empty, empty_words, length-times, times-nil}
use Rattle.xs_regex.proofs.Built.{restated, itself, of_bare, round_is, optional_is, any_number, number_any, copy_is, free_copy_is, no_run}

-- there is room for one copy more
pub room : (one all : Position) (Word : List ℕ → Type 0) (Sure : Type 0) (n most : ℕ) → IsWellFormed one → n < most → most * length one.classes ≤ 512 → IsAutomaton Word (times n one.classes) Sure all → CanJoin one all
room one all Word Sure n most formed l small a =
    let e : length all.classes ≡ n * length one.classes = ap (λ (x : List (List (ℕ × ℕ))). length x) a.classes_are ∙ length-times n one.classes in
    let h : suc n ≤ most = omega arith in
    record { front = formed; rest = a.formed; small = omega (arith, mul-le-mul_left (length one.classes) h) }

pub at_least_init : (one last r : Position) (least : ℕ) → IsWellFormed one → IsRound one last → r ≡ (if nat_eq least 0 then optional last else last) → IsAutomaton (Repeats (Accepts one) (min 1 least) None) (one.classes ++ []) (IsSure one least None) r
at_least_init one last r least f t is = elim (eqb_tells least 0) [
  | inl h ↦
      let whole : optional last ≡ r = sym (is ∙ ap (λ (b : Bool). if b then optional last else last) h.0) in
      let low : 0 ≡ min 1 least = omega (arith, h.1) in
      subst (λ p. IsAutomaton (Repeats (Accepts one) (min 1 least) None) (one.classes ++ []) (IsSure one least None) p) whole
      (subst (λ n. IsAutomaton (Repeats (Accepts one) n None) (one.classes ++ []) (IsSure one least None) (optional last)) low
      (restated (any_number (Accepts one)) (number_any (Accepts one)) (sym (append-nil one.classes)) (λ s. s.1) (optional_is (round_is (itself one f) t))))
  | inr h ↦
      let whole : last ≡ r = sym (is ∙ ap (λ (b : Bool). if b then optional last else last) h.0) in
      let low : 1 ≡ min 1 least = omega (arith, h.1) in
      subst (λ p. IsAutomaton (Repeats (Accepts one) (min 1 least) None) (one.classes ++ []) (IsSure one least None) p) whole
      (subst (λ n. IsAutomaton (Repeats (Accepts one) n None) (one.classes ++ []) (IsSure one least None) last) low
      (restated (λ w a. a) (λ w a. a) (sym (append-nil one.classes)) (λ s. s.1) (round_is (itself one f) t)))
]

pub at_least_more : (one all r : Position) (least later : ℕ) → later < least → IsWellFormed one → IsAutomaton (Repeats (Accepts one) (min later least) None) (times later one.classes) (IsSure one least None) all → IsThen one all r → IsAutomaton (Repeats (Accepts one) (min (later + 1) least) None) (times (later + 1) one.classes) (IsSure one least None) r
at_least_more one all r least later l f a t =
    let low : min later least + 1 ≡ min (later + 1) least = omega arith in
    let next : suc later ≡ later + 1 = omega arith in
    subst (λ n. IsAutomaton (Repeats (Accepts one) (min (later + 1) least) None) (times n one.classes) (IsSure one least None) r) next
    (subst (λ n. IsAutomaton (Repeats (Accepts one) n None) (times (suc later) one.classes) (IsSure one least None) r) low
    (copy_is one all r (min later least) None None later (IsSure one least None) (λ k m. tt) (λ k m. tt) (λ s. s.1) f a t))

pub at_least_end : (one all : Position) (least later : ℕ) → least ≤ later → 1 ≤ later → later ≤ max least 1 → IsAutomaton (Repeats (Accepts one) (min later least) None) (times later one.classes) (IsSure one least None) all → IsAutomaton (Repeats (Accepts one) least None) (times (max least 1) one.classes) (IsSure one least None) all
at_least_end one all least later l m n a =
    let low : min later least ≡ least = omega arith in
    let end : later ≡ max least 1 = omega arith in
    subst (λ n. IsAutomaton (Repeats (Accepts one) least None) (times n one.classes) (IsSure one least None) all) end
    (subst (λ n. IsAutomaton (Repeats (Accepts one) n None) (times later one.classes) (IsSure one least None) all) low a)

pub between_init : (one r : Position) (least most : ℕ) → r ≡ bare (nat_le least most) → IsAutomaton (Repeats (Accepts one) (least - (most - 0)) (Some 0)) [] (IsSure one least (Some most)) r
between_init one r least most is =
    subst (λ p. IsAutomaton (Repeats (Accepts one) (least - (most - 0)) (Some 0)) [] (IsSure one least (Some most)) p) (sym is)
    (of_bare _ (IsSure one least (Some most)) (nat_le least most) (λ b. ([], refl, tt, omega (arith, leb-true least most b), omega arith)) (λ w h. none w h.0 h.1 h.3 h.4) (λ s. le-leb least most s.0))
  where
    none : (w : List ℕ) (ws : List (List ℕ)) → w ≡ joined ws → least - (most - 0) ≤ length ws → length ws ≤ 0 → (w ≡ []) × IsTrue (nat_le least most)
    none w [] e l m = (e, le-leb least most (omega arith))
    none w (u ∷ us) e l m = absurd (omega arith)

pub between_more : (one all more r : Position) (least most later : ℕ) → later < most → IsWellFormed one → IsAutomaton (Repeats (Accepts one) (least - (most - later)) (Some later)) (times later one.classes) (IsSure one least (Some most)) all → IsThen one all more → r ≡ (if nat_lt least (most - later) then optional more else more) → IsAutomaton (Repeats (Accepts one) (least - (most - (later + 1))) (Some (later + 1))) (times (later + 1) one.classes) (IsSure one least (Some most)) r
between_more one all more r least most later l f a t is = choose (nat_lt least (most - later)) refl
  where
    next : suc later ≡ later + 1
    next = omega arith

    choose : (b : Bool) → nat_lt least (most - later) ≡ b → IsAutomaton (Repeats (Accepts one) (least - (most - (later + 1))) (Some (later + 1))) (times (later + 1) one.classes) (IsSure one least (Some most)) r
    choose true b =
        let free : least < most - later = ltb-true least (most - later) b in
        let whole : optional more ≡ r = sym (is ∙ ap (λ (c : Bool). if c then optional more else more) b) in
        let low : 0 ≡ least - (most - (later + 1)) = omega arith in
        let before : least - (most - later) ≡ 0 = omega arith in
        subst (λ p. IsAutomaton (Repeats (Accepts one) (least - (most - (later + 1))) (Some (later + 1))) (times (later + 1) one.classes) (IsSure one least (Some most)) p) whole
        (subst (λ n. IsAutomaton (Repeats (Accepts one) n (Some (later + 1))) (times (later + 1) one.classes) (IsSure one least (Some most)) (optional more)) low
        (subst (λ n. IsAutomaton (Repeats (Accepts one) 0 (Some (later + 1))) (times n one.classes) (IsSure one least (Some most)) (optional more)) next
        (free_copy_is one all more (Some later) (Some (later + 1)) later (IsSure one least (Some most)) (λ k m. omega (arith, m)) (λ k m. omega (arith, m)) (omega arith) (λ s. s.1) f
        (subst (λ n. IsAutomaton (Repeats (Accepts one) n (Some later)) (times later one.classes) (IsSure one least (Some most)) all) before a) t)))
    choose false b =
        let full : most - later ≤ least = ltb-false least (most - later) b in
        let whole : more ≡ r = sym (is ∙ ap (λ (c : Bool). if c then optional more else more) b) in
        let low : (least - (most - later)) + 1 ≡ least - (most - (later + 1)) = omega arith in
        subst (λ p. IsAutomaton (Repeats (Accepts one) (least - (most - (later + 1))) (Some (later + 1))) (times (later + 1) one.classes) (IsSure one least (Some most)) p) whole
        (subst (λ n. IsAutomaton (Repeats (Accepts one) n (Some (later + 1))) (times (later + 1) one.classes) (IsSure one least (Some most)) more) low
        (subst (λ n. IsAutomaton (Repeats (Accepts one) ((least - (most - later)) + 1) (Some (later + 1))) (times n one.classes) (IsSure one least (Some most)) more) next
        (copy_is one all more (least - (most - later)) (Some later) (Some (later + 1)) later (IsSure one least (Some most)) (λ k m. omega (arith, m)) (λ k m. omega (arith, m)) (λ s. s.1) f a t)))

pub between_end : (one all : Position) (least most later : ℕ) → later ≡ most → IsAutomaton (Repeats (Accepts one) (least - (most - later)) (Some later)) (times later one.classes) (IsSure one least (Some most)) all → IsAutomaton (Repeats (Accepts one) least (Some most)) (times most one.classes) (IsSure one least (Some most)) all
between_end one all least most later e a =
    let low : least - (most - later) ≡ least = omega arith in
    subst (λ n. IsAutomaton (Repeats (Accepts one) least (Some n)) (times n one.classes) (IsSure one least (Some most)) all) e
    (subst (λ n. IsAutomaton (Repeats (Accepts one) n (Some later)) (times later one.classes) (IsSure one least (Some most)) all) low a)

-- an automaton of no position, again and again
at_most_none : (most : Option ℕ) → AtMost 0 most
at_most_none None = tt
at_most_none (Some n) = omega arith

at_most_least : (least : ℕ) (most : Option ℕ) (n : ℕ) → n ≡ least → IsInOrder least most → AtMost n most
at_most_least least None n e h = tt
at_most_least least (Some m) n e h = omega (arith, h)

in_order : (least : ℕ) (most : Option ℕ) (n : ℕ) → least ≤ n → AtMost n most → IsInOrder least most
in_order least None n l h = tt
in_order least (Some m) n l h = omega (arith, h)

pub empty_repeat : (one r : Position) (least : ℕ) (most : Option ℕ) (b : Bool) → IsWellFormed one → one.classes ≡ [] → r ≡ bare b → (IsTrue b ↔ ((least ≡ 0) ⊎ (IsTrue one.nullable × IsInOrder least most))) → IsAutomaton (Repeats (Accepts one) least most) (times (copies least most) one.classes) (IsSure one least most) r
empty_repeat one r least most b f none is decides =
    let no_class : [] ≡ times (copies least most) one.classes = sym (ap (λ (c : List (List (ℕ × ℕ))). times (copies least most) c) none ∙ times-nil (copies least most)) in
    subst (λ p. IsAutomaton (Repeats (Accepts one) least most) (times (copies least most) one.classes) (IsSure one least most) p) (sym is)
    (subst (λ c. IsAutomaton (Repeats (Accepts one) least most) c (IsSure one least most) (bare b)) no_class
    (of_bare (Repeats (Accepts one) least most) (IsSure one least most) b (λ t. to (decides.0 t)) (λ w h. back w h.0 h.1 h.2 h.3 h.4) (λ s. sure s)))
  where
    to : (least ≡ 0) ⊎ (IsTrue one.nullable × IsInOrder least most) → Repeats (Accepts one) least most []
    to (inl e) = ([], refl, tt, omega (arith, e), at_most_none most)
    to (inr h) = let ws = empty_words (Accepts one) least (inl (refl, h.0)) in (ws.0, ws.1, ws.2, omega (arith, ws.3), at_most_least least most (length ws.0) ws.3 h.1)

    empty : (u : List ℕ) → Accepts one u → u ≡ []
    empty u (inl a) = a.0
    empty u (inr a) = absurd (no_run none a.1)

    nullable : (u : List ℕ) → Accepts one u → IsTrue one.nullable
    nullable u (inl a) = a.1
    nullable u (inr a) = absurd (no_run none a.1)

    back : (w : List ℕ) (ws : List (List ℕ)) → w ≡ joined ws → Each (Accepts one) ws → least ≤ length ws → AtMost (length ws) most → (w ≡ []) × IsTrue b
    back w [] e a l m = (e, decides.1 (inl (omega arith)))
    back w (u ∷ us) e a l m = (e ∙ all_empty (u ∷ us) (each_weaker (Accepts one) (λ x. x ≡ []) empty (u ∷ us) a), decides.1 (inr (nullable u a.0, in_order least most (suc (length us)) l m)))

    sure : IsSure one least most → IsTrue b
    sure s =
        let trim = s.1 (λ k l. absurd (omega (arith, l, ap (λ (c : List (List (ℕ × ℕ))). length c) none))) in
        elim trim.lives [
          | inl n ↦ decides.1 (inr (n, s.0))
          | inr h ↦ absurd (omega (arith, f.first_in h.0 h.1, ap (λ (c : List (List (ℕ × ℕ))). length c) none))
        ]

-- what is repeated, by its own words and classes
pub times_is : {V : List ℕ → Type 0} {c : List (List (ℕ × ℕ))} {S : Type 0} {p : Position} (r : Position) (least : ℕ) (most : Option ℕ) → IsAutomaton V c S p → IsAutomaton (Repeats (Accepts p) least most) (times (copies least most) p.classes) (IsSure p least most) r → IsAutomaton (Repeats V least most) (times (copies least most) c) (IsInOrder least most × S) r
times_is {V} {p = p} r least most a b =
    restated (λ w h. (h.0, h.1, each_weaker (Accepts p) V a.sound h.0 h.2, h.3, h.4)) (λ w h. (h.0, h.1, each_weaker V (Accepts p) a.complete h.0 h.2, h.3, h.4)) (ap (λ (x : List (List (ℕ × ℕ))). times (copies least most) x) a.classes_are) (λ s. (s.0, λ m. a.trim s.1 m)) b
