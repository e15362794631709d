-- What a set of bits holds after its words change.
use Rattle.std.proofs.Common.{◌≡◌, ◌≢◌, ℕ, zero, suc, ◌+◌, ◌*◌, ◌/◌, ◌%◌, ◌^◌, ◌<◌, true, false, not, nat_eq, List, length, get_or, set, replicate, max, bit_and, bit_or, w64, refl, sym, ap, ◌∙◌, inl, inr, arith, length-set, get_or-set_same, get_or-set_other}
use Rattle.std.specs.Int.{bit_at}
use Rattle.std.proofs.lemmas.Bool.{cases_eq}
use Rattle.std.proofs.lemmas.List.{get_or-replicate, length-replicate}
use Rattle.std.proofs.lemmas.List.FromFn.{length-map-range_with_len, get_or-map-range_with_len, fill_by_all}
use Rattle.std.proofs.lemmas.Nat.Bits.{bit_at-zero, bit_at-lt, bit_at_set_same, bit_at_set_other, shr_and_one}
use Rattle.xs_auto.specs.Bits.{bit_of, bits_of, HoldsBits}

-- a number below the bound is in the set where its bit is set
pub bit_read : (bound : ℕ) (words : List ℕ) (c : ℕ) → c < bound → get_or (bits_of bound words) c false ≡ bit_of words c
bit_read bound words c l = get_or-map-range_with_len (bit_of words) 0 bound c c false l (omega arith)

pub length_bits : (bound : ℕ) (words : List ℕ) → length (bits_of bound words) ≡ bound
length_bits bound words = length-map-range_with_len (bit_of words) 0 bound

-- each element of copies, and of none, is what was copied
pub copy_at : {X : Type 0} (x : X) (n k : ℕ) → get_or (replicate n x) k x ≡ x
copy_at x zero k = refl
copy_at x (suc n) zero = refl
copy_at x (suc n) (suc k) = copy_at x n k

-- words of zeros hold no number
pub blank_bits : (bound : ℕ) (words : List ℕ) → ((k : ℕ) → get_or words k 0 ≡ 0) → bits_of bound words ≡ replicate bound false
blank_bits bound words h =
    sym (fill_by_all (bit_of words) (replicate bound false) bound false (length-replicate bound false) (λ k l. get_or-replicate bound k false false l ∙ sym (clear k)))
  where
    clear : (k : ℕ) → bit_of words k ≡ false
    clear k = rw (h (k / 64), bit_at-zero (k % 64)) refl

-- the words with the bit of c set
abbrev pub with_bit : List ℕ → ℕ → List ℕ
with_bit words c = set words (c / 64) (bit_or (get_or words (c / 64) 0) (1 * 2 ^ (c % 64) % 2 ^ 64))

bit_here : (words : List ℕ) (c : ℕ) → c / 64 < length words → bit_of (with_bit words c) c ≡ true
bit_here words c within = ap (λ w. nat_eq (bit_at w (c % 64)) 1) (get_or-set_same words (c / 64) _ 0 within) ∙ ap (λ b. nat_eq b 1) (bit_at_set_same w64 (get_or words (c / 64) 0) (c % 64) (omega arith))

pub bit_there : (words : List ℕ) (c k : ℕ) → c / 64 < length words → k ≢ c → bit_of (with_bit words c) k ≡ bit_of words k
bit_there words c k within ne = elim (cases_eq (k / 64) (c / 64)) [
  | inl e ↦
      let other : k % 64 ≢ c % 64 = λ f. ne (omega arith) in
      ap (λ q. nat_eq (bit_at (get_or (with_bit words c) q 0) (k % 64)) 1) e ∙ ap (λ w. nat_eq (bit_at w (k % 64)) 1) (get_or-set_same words (c / 64) _ 0 within) ∙ ap (λ b. nat_eq b 1) (bit_at_set_other w64 (get_or words (c / 64) 0) (c % 64) (omega arith) (k % 64) other) ∙ ap (λ q. nat_eq (bit_at (get_or words q 0) (k % 64)) 1) (sym e)
  | inr o ↦ ap (λ w. nat_eq (bit_at w (k % 64)) 1) (get_or-set_other words (c / 64) (k / 64) _ 0 o)
]

-- a number whose bit is set now is in the set, and all others are as they were
pub set_bits : (bound : ℕ) (words : List ℕ) (c : ℕ) → c < bound → c / 64 < length words → bits_of bound (with_bit words c) ≡ set (bits_of bound words) c true
set_bits bound words c l within =
    sym (fill_by_all (bit_of (with_bit words c)) (set (bits_of bound words) c true) bound false (length-set (bits_of bound words) c true ∙ length_bits bound words) at)
  where
    at : (k : ℕ) → k < bound → get_or (set (bits_of bound words) c true) k false ≡ bit_of (with_bit words c) k
    at k m = elim (cases_eq k c) [
      | inl e ↦ rw e (get_or-set_same (bits_of bound words) c true false (rw length_bits l) ∙ sym (bit_here words c within))
      | inr ne ↦ get_or-set_other (bits_of bound words) c k true false ne ∙ bit_read bound words k m ∙ sym (bit_there words c k within ne)
    ]

-- the test of a bit that the code makes
pub fresh_bit : (word r : ℕ) → nat_eq (bit_and (word / 2 ^ r) 1) 0 ≡ not (nat_eq (bit_at word r) 1)
fresh_bit word r = rw (shr_and_one word r) (one_of (bit_at word r) (bit_at-lt word r))
  where
    one_of : (b : ℕ) → b < 2 → nat_eq b 0 ≡ not (nat_eq b 1)
    one_of zero l = refl
    one_of (suc zero) l = refl
    one_of (suc (suc b)) l = absurd (omega arith)

pub held_bit : (word r : ℕ) → nat_eq (bit_and (word / 2 ^ r) 1) 1 ≡ nat_eq (bit_at word r) 1
held_bit word r = rw (shr_and_one word r) refl

-- one more word is used, up to the greatest that ever was
pub bit_holds : (bound used last word : ℕ) (words : List ℕ) (c : ℕ) → HoldsBits bound used words → c / 64 < length words → last ≡ max used (c / 64 + 1) → HoldsBits bound last (set words (c / 64) word)
bit_holds bound used last word words c h l e = record {
  room = rw length-set h.room;
  within = rw length-set (omega (arith, h.within));
  unused = λ k m. let ne : k ≢ c / 64 = (λ f. absurd (omega arith)) in get_or-set_other words (c / 64) k word 0 ne ∙ h.unused k (omega arith);
}
