-- A name up to its closing brace, and the room for hexadecimal digits.
use Rattle.std.proofs.Common.{◌≡◌, ℕ, zero, suc, ◌+◌, ◌*◌, ◌<◌, ◌≤◌, false, ◌==◌, List, [], ◌∷◌, length, take, drop, get_or, refl, inl, inr, arith, None, Some}
use Rattle.std.proofs.lemmas.Bool.Decides.{eqb_tells}
use Rattle.xs_regex.specs.Characters.{hex_room, name_at}

not_brace : (c : ℕ) → (c ≡ 125 → ⊥) → (c == 125) ≡ false
not_brace c n = elim (eqb_tells c 125) [ inl h ↦ absurd (n h.1) | inr h ↦ h.0 ]

pub name_none : (cs : List ℕ) → ((k : ℕ) → k < length cs → get_or cs k 0 ≡ 125 → ⊥) → name_at cs ≡ None
name_none [] n = refl
name_none (c ∷ cs) n = rw (not_brace c (n 0 (omega arith)), name_none cs (λ k l. n (suc k) (omega arith))) refl

pub name_split : (cs : List ℕ) (end : ℕ) → end < length cs → get_or cs end 0 ≡ 125 → ((k : ℕ) → k < end → get_or cs k 0 ≡ 125 → ⊥) → name_at cs ≡ Some (take end cs, drop (suc end) cs)
name_split [] end l e n = absurd (omega arith)
name_split (c ∷ cs) zero l e n = rw e refl
name_split (c ∷ cs) (suc end) l e n = rw (not_brace c (n 0 (omega arith)), name_split cs end (omega arith) e (λ k l. n (suc k) (omega arith))) refl

pub room_small : (count : ℕ) → count < 6 → hex_room count ≤ 1048576
room_small zero l = omega arith
room_small (suc zero) l = omega arith
room_small (suc (suc zero)) l = omega arith
room_small (suc (suc (suc zero))) l = omega arith
room_small (suc (suc (suc (suc zero)))) l = omega arith
room_small (suc (suc (suc (suc (suc zero))))) l = omega arith
room_small (suc (suc (suc (suc (suc (suc k)))))) l = absurd (omega arith)

pub room_more : (count value digit : ℕ) → value < hex_room count → digit < 16 → 16 * value + digit < hex_room (count + 1)
room_more count value digit l d = let e : count + 1 ≡ suc count = omega arith in rw e (omega arith)
