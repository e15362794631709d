-- The marks of a row, a word after another.
use Rattle.std.proofs.Common.{◌≡◌, ◌⊎◌, ℕ, zero, suc, ◌+◌, ◌-◌, ◌*◌, ◌/◌, ◌%◌, ◌^◌, ◌<◌, ◌≤◌, Bool, true, false, nat_eq, List, [], ◌∷◌, ◌++◌, length, get_or, drop, take, decimal, w64, refl, sym, ap, ◌∙◌, subst, inl, inr, arith, append_assoc}
use Rattle.std.specs.Int.{bit_at, trailing_zeros}
use Rattle.std.proofs.lemmas.Bool.{cases_lt}
use Rattle.std.proofs.lemmas.List.{drop-drop, get_or_past}
use Rattle.std.proofs.lemmas.Nat.Bits.{bit_at-zero, bit_at-trailing_zeros, bit_at_above}
use Rattle.xs_closed.specs.Rows.{Grid, places, IsSized}
use Rattle.xs_closed.specs.Lanes.{IsLane}
use Rattle.xs_closed.proofs.WordLemmas.{shifted}
use Rattle.xs_cert_lines.specs.Reading.{listed}
use Rattle.xs_cert_lines.specs.Pages.{Puts}
use Rattle.xs_cert_lines.proofs.Paging.{put_then}
use Rattle.xs_cert_lines.proofs.Writing.{get_drop, next_place}

-- the bits that are left are the marks of a row from one number up to another
pub record IsLeft (row : List Bool) (from to left : ℕ) : Type 0 where
  pub order : from ≤ to
  pub bits : (b : ℕ) → from ≤ b → b < to → b < length row → get_or row b false ≡ nat_eq (bit_at left (b - from)) 1
  pub none : (i : ℕ) → to ≤ from + i → bit_at left i ≡ 0

-- all of a word
pub whole_lane : (z : Grid) (a place word : ℕ) → word < 2 ^ 64 → length (get_or z.rows a []) ≡ z.wide → IsLane z a place word → IsLeft (get_or z.rows a []) (place * 64) (place * 64 + 64) word
whole_lane z a place word fits wide lane = record {
  order = omega arith;
  bits = λ b l m k. (let e : b % 64 ≡ b - place * 64 = omega (arith, l, m) in lane.marks b (omega (arith, l, m)) (omega (arith, k, wide)) ∙ ap (λ i. nat_eq (bit_at word i) 1) e);
  none = λ i l. bit_at_above word 64 i fits (omega (arith, l));
}

-- the next mark, and the bits after it
pub record IsNextBit (row : List Bool) (from to left b : ℕ) : Type 0 where
  pub below : b < to
  pub order : from ≤ b
  pub there : get_or row b false ≡ true
  pub least : (c : ℕ) → from ≤ c → c < b → get_or row c false ≡ false
  pub next : IsLeft row (suc b) to left

zero_bit : (x : ℕ) → x ≡ 0 → nat_eq x 1 ≡ false
zero_bit x e = ap (λ y. nat_eq y 1) e

pub next_bit : (row : List Bool) (from to left : ℕ) → left < 2 ^ 64 → 0 < left → from + trailing_zeros w64 left < length row → IsLeft row from to left
    → IsNextBit row from to (left / 2 ^ trailing_zeros w64 left / 2 ^ 1) (from + trailing_zeros w64 left)
next_bit row from to left fits some within is =
    let zeros = trailing_zeros w64 left in
    let low = bit_at-trailing_zeros w64 left some fits in
    let below : from + zeros < to = reached zeros low.1 (cases_lt (from + zeros) to) in
    record {
      below = below;
      order = omega arith;
      there = is.bits (from + zeros) (omega arith) below within ∙ ap (λ i. nat_eq (bit_at left i) 1) (back zeros) ∙ ap (λ x. nat_eq x 1) low.1;
      least = λ c l m. is.bits c l (omega (arith, m, below)) (omega (arith, m, within)) ∙ zero_bit (bit_at left (c - from)) (low.2 (c - from) (omega (arith, l, m)));
      next = record {
        order = omega (arith, below);
        bits = λ b l m k. is.bits b (omega (arith, l)) m k ∙ ap (λ x. nat_eq x 1) (sym (later zeros (b - suc (from + zeros)) ∙ ap (bit_at left) (onwards zeros b l)));
        none = λ i l. later zeros i ∙ is.none (zeros + 1 + i) (omega (arith, l));
      };
    }
  where
    back : (k : ℕ) → from + k - from ≡ k
    back k = omega arith

    onwards : (k b : ℕ) → suc (from + k) ≤ b → k + 1 + (b - suc (from + k)) ≡ b - from
    onwards k b l = omega (arith, l)

    later : (k i : ℕ) → bit_at (left / 2 ^ k / 2 ^ 1) i ≡ bit_at left (k + 1 + i)
    later k i = shifted (left / 2 ^ k) 1 i ∙ shifted left k (1 + i) ∙ ap (bit_at left) (together k i)
      where
        together : (k i : ℕ) → k + (1 + i) ≡ k + 1 + i
        together k i = omega arith

    reached : (k : ℕ) → bit_at left k ≡ 1 → (from + k < to) ⊎ (to ≤ from + k) → from + k < to
    reached k there (inl l) = l
    reached k there (inr g) = absurd (omega (arith, there, is.none k g))

pub lane_next : (row : List Bool) (from to left k : ℕ) → left < 2 ^ 64 → 0 < left → k ≡ trailing_zeros w64 left → from + k < length row → IsLeft row from to left
    → IsNextBit row from to (left / 2 ^ trailing_zeros w64 left / 2 ^ 1) (from + k)
lane_next row from to left k fits some e within is =
    subst (λ j. IsNextBit row from to (left / 2 ^ trailing_zeros w64 left / 2 ^ 1) (from + j)) (sym e) (next_bit row from to left fits some (subst (λ j. from + j < length row) e within) is)

-- the next mark of a row of a table
pub lane_found : (z : Grid) (a from to left k : ℕ) → a < length z.rows → IsSized (length z.rows) z.wide z → left < 2 ^ 64 → 0 < left → k ≡ trailing_zeros w64 left → from + k < z.wide → IsLeft (get_or z.rows a []) from to left
    → IsNextBit (get_or z.rows a []) from to (left / 2 ^ trailing_zeros w64 left / 2 ^ 1) (from + k)
lane_found z a from to left k l sized fits some e within is = lane_next (get_or z.rows a []) from to left k fits some e (omega (arith, sized.even a l, within)) is

-- no mark is left
pub no_bits : (row : List Bool) (from to : ℕ) → IsLeft row from to 0 → (b : ℕ) → from ≤ b → b < to → get_or row b false ≡ false
no_bits row from to is b l m = elim (cases_lt b (length row)) [
  | inl k ↦ is.bits b l m k ∙ zero_bit (bit_at 0 (b - from)) (bit_at-zero (b - from))
  | inr k ↦ get_or_past row b false k
]

-- nor where the next would be outside
pub bits_outside : (row : List Bool) (from to left : ℕ) → left < 2 ^ 64 → 0 < left → length row ≤ from + trailing_zeros w64 left → IsLeft row from to left → (b : ℕ) → from ≤ b → b < to → get_or row b false ≡ false
bits_outside row from to left fits some past is b l m = elim (cases_lt b (length row)) [
  | inl k ↦ is.bits b l m k ∙ zero_bit (bit_at left (b - from)) ((bit_at-trailing_zeros w64 left some fits).2 (b - from) (omega (arith, k, past, l)))
  | inr k ↦ get_or_past row b false k
]

-- marks are passed over that are none
pass_one : (from : ℕ) (row : List Bool) → get_or row from false ≡ false → places from (drop from row) ≡ places (suc from) (drop (suc from) row)
pass_one from row none = one (drop from row) (get_drop from 0 row ∙ ap (λ k. get_or row k false) (same from) ∙ none) ∙ ap (places (suc from)) (drop-drop 1 from row ∙ ap (λ k. drop k row) (next from))
  where
    same : (n : ℕ) → n + 0 ≡ n
    same n = omega arith

    next : (n : ℕ) → n + 1 ≡ suc n
    next n = omega arith

    one : (bs : List Bool) → get_or bs 0 false ≡ false → places from bs ≡ places (suc from) (drop 1 bs)
    one [] e = refl
    one (true ∷ bs) e = absurd (differ e)
      where
        differ : true ≡ false → ⊥
        differ h = cc
    one (false ∷ bs) e = refl

pub pass : (count from : ℕ) (row : List Bool) → ((b : ℕ) → from ≤ b → b < from + count → get_or row b false ≡ false) → places from (drop from row) ≡ places (from + count) (drop (from + count) row)
pass zero from row none = ap (λ k. places k (drop k row)) (same from)
  where
    same : (n : ℕ) → n ≡ n + 0
    same n = omega arith
pass (suc count) from row none =
    pass_one from row (none from (omega arith) (omega arith))
    ∙ pass count (suc from) row (λ b l m. none b (omega (arith, l)) (omega (arith, m)))
    ∙ ap (λ k. places k (drop k row)) (next from count)
  where
    next : (n k : ℕ) → suc n + k ≡ n + suc k
    next n k = omega arith

pub passed : (from to : ℕ) (row : List Bool) → from ≤ to → ((b : ℕ) → from ≤ b → b < to → get_or row b false ≡ false) → places from (drop from row) ≡ places to (drop to row)
passed from to row order none =
    let is : from + (to - from) ≡ to = omega (arith, order) in
    pass (to - from) from row (λ b l m. none b l (omega (arith, m, is))) ∙ ap (λ k. places k (drop k row)) is

-- a partner is put
pub partner_put : (old mid new all : List ℕ) (at between end from to left b : ℕ) (row : List Bool)
    → take at old ++ listed (places from (drop from row)) ≡ all → IsNextBit row from to left b → Puts old mid at between (32 ∷ []) → Puts mid new between end (decimal b)
    → take end new ++ listed (places (suc b) (drop (suc b) row)) ≡ all
partner_put old mid new all at between end from to left b row so next space number =
    ap (λ z. z ++ listed (places (suc b) (drop (suc b) row))) (put_then old mid new at between end (32 ∷ []) (decimal b) space number).text
    ∙ append_assoc (take at old) (32 ∷ decimal b) (listed (places (suc b) (drop (suc b) row)))
    ∙ ap (λ ps. take at old ++ listed ps) (sym (next_place from b row next.order next.there next.least)) ∙ so

-- no partner is put any more
pub lane_ends : (old all : List ℕ) (at from to : ℕ) (row : List Bool) → from ≤ to → ((b : ℕ) → from ≤ b → b < to → get_or row b false ≡ false)
    → take at old ++ listed (places from (drop from row)) ≡ all → take at old ++ listed (places to (drop to row)) ≡ all
lane_ends old all at from to row order none so = ap (λ ps. take at old ++ listed ps) (sym (passed from to row order none)) ∙ so
