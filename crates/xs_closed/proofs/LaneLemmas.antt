-- A row of a table of marks in words: clearing it, and its words.
use Rattle.std.proofs.Common.{◌≡◌, ℕ, zero, suc, ◌+◌, ◌-◌, ◌*◌, ◌/◌, ◌%◌, ◌<◌, ◌≤◌, nat_eq, List, length, get_or, refl, sym, ap, ◌∙◌, subst, inl, inr, arith}
use Rattle.std.specs.Int.{bit_at}
use Rattle.std.proofs.lemmas.Bool.{cases_eq, cases_lt}
use Rattle.std.proofs.lemmas.Nat.{mul-add-lt}
use Rattle.std.proofs.lemmas.Nat.Bits.{bit_at-zero}
use Rattle.xs_closed.specs.Rows.{Grid}
use Rattle.xs_closed.specs.Words.{grid_of, IsPacked, IsCleared}
use Rattle.xs_closed.specs.Lanes.{HasNoRow, IsLane}
use Rattle.xs_closed.proofs.WordLemmas.{rows_length, pair_read, pair_blank, past_high, past_wide}

-- the words of a row are there
pub row_within : (high wide step used : ℕ) (words : List ℕ) (a : ℕ) → IsPacked high wide step used words → a < high → a * step + step ≤ length words
row_within high wide step used words a h l = by step refl
  where
    by : (n : ℕ) → n ≡ step → a * step + step ≤ length words
    by zero e = subst (λ k. a * k + k ≤ length words) e (omega arith)
    by (suc n) e = omega (arith, h.room, mul-add-lt a step n high l (omega (arith, e)))

pub row_there : {high wide step used : ℕ} {words : List ℕ} {z : Grid} (a : ℕ) → IsPacked high wide step used words → grid_of high wide step words ≡ z → a < length z.rows → a * step + step ≤ length words
row_there {high} {wide} {step} {used} {words} a h e l = row_within high wide step used words a h (rw (← e, rows_length high wide step words) at l)

-- a table whose row was cleared
pub cleared_packed : (high wide step used a : ℕ) (old new : List ℕ) → IsPacked high wide step used old → IsCleared old new (a * step) (a * step + step) → IsPacked high wide step used new
cleared_packed high wide step used a old new h is = record {
  room = omega (arith, h.room, is.length);
  columns = h.columns;
  within = omega (arith, h.within, is.length);
  unused = λ k l. elim (cases_lt k (a * step)) [
    | inl m ↦ is.before k m ∙ h.unused k l
    | inr m ↦ elim (cases_lt k (a * step + step)) [
      | inl n ↦ is.zeros k m n
      | inr n ↦ is.after k n ∙ h.unused k l
    ]
  ];
}

-- a row of zeros has no pairs
pub row_cleared : (high wide step used a : ℕ) (old new : List ℕ) → IsPacked high wide step used old → a < high → IsCleared old new (a * step) (a * step + step) → HasNoRow (grid_of high wide step old) (grid_of high wide step new) a
row_cleared high wide step used a old new h l is = record {
  clear = λ b. pair_blank high wide step new a b (λ m. rw (is.zeros (a * step + b / 64) (omega arith) (omega (arith, h.columns, m)), bit_at-zero (b % 64)) refl);
  others = λ c d ne. elim (cases_lt c high) [
    | inr o ↦ past_high high wide step new c d o ∙ sym (past_high high wide step old c d o)
    | inl o ↦ elim (cases_lt d wide) [
      | inr p ↦ past_wide high wide step new c d p ∙ sym (past_wide high wide step old c d p)
      | inl p ↦ pair_read high wide step new c d o p ∙ ap (λ w. nat_eq (bit_at w (d % 64)) 1) (other c (d / 64) ne (omega (arith, h.columns, p))) ∙ sym (pair_read high wide step old c d o p)
    ]
  ];
}
  where
    other : (c k : ℕ) → (c ≡ a → ⊥) → k < step → get_or new (c * step + k) 0 ≡ get_or old (c * step + k) 0
    other c k ne low = elim (cases_lt c a) [
      | inl m ↦ is.before (c * step + k) (omega (arith, mul-add-lt c step k a m low))
      | inr m ↦ is.after (c * step + k) (omega (arith, mul-add-lt a step (step - 1) c (later m) (omega (arith, low))))
    ]
      where
        later : a ≤ c → a < c
        later m = elim (cases_eq c a) [
          | inl e ↦ absurd (ne e)
          | inr n ↦ omega (arith, n, m)
        ]

-- a word of a row
lane_within : (high wide step used : ℕ) (words : List ℕ) (a place : ℕ) → IsPacked high wide step used words → a < high → place * 64 < wide → a * step + place < length words
lane_within high wide step used words a place h l m = let k : place < step = omega (arith, h.columns, m) in omega (arith, h.room, mul-add-lt a step place high l k)

pub lane_inside : {high wide step used : ℕ} {words : List ℕ} {z : Grid} (a place : ℕ) → IsPacked high wide step used words → grid_of high wide step words ≡ z → a < length z.rows → place * 64 < z.wide → (a < high) × (a * step + place < length words)
lane_inside {high} {wide} {step} {used} {words} a place h e l m =
    let below = rw (← e, rows_length high wide step words) at l in
    (below, lane_within high wide step used words a place h below (rw (← e) at m))

pub lane_read : (high wide step : ℕ) (words : List ℕ) (a place word : ℕ) → a < high → word ≡ get_or words (a * step + place) 0 → IsLane (grid_of high wide step words) a place word
lane_read high wide step words a place word l e = record {
  marks = λ b at m. pair_read high wide step words a b l m ∙ rw (e, at) refl;
}
