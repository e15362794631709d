-- More digits make no number smaller.
use Rattle.std.proofs.Common.{◌≡◌, ◌∙◌, ℕ, suc, ◌+◌, ◌-◌, ◌*◌, ◌<◌, true, false, List, [], ◌∷◌, None, refl, sym, ap, cond, length, drop, get_or, arith, drop-cons}
use Rattle.xs_class.specs.Words.{is_digit}
use Rattle.xs_words.specs.Number.{number_after, within}

pub beyond : (n : ℕ) (bs : List ℕ) (least most : ℕ) → most < n → within least most (number_after n bs) ≡ None
beyond n [] least most h = grind arith
beyond n (b ∷ bs) least most h =
    let next : within least most (number_after (n * 10 + (b - 48)) bs) ≡ None = beyond (n * 10 + (b - 48)) bs least most (omega (arith, h)) in
    elim (is_digit b) as (λ t. within least most (cond t (number_after (n * 10 + (b - 48)) bs) None) ≡ None) [ true ↦ next | false ↦ refl ]

pub beyond_digit : (n b : ℕ) (bs : List ℕ) (least most : ℕ) → most < n * 10 + (b - 48) → within least most (number_after n (b ∷ bs)) ≡ None
beyond_digit n b bs least most h =
    let next : within least most (number_after (n * 10 + (b - 48)) bs) ≡ None = beyond (n * 10 + (b - 48)) bs least most h in
    elim (is_digit b) as (λ t. within least most (cond t (number_after (n * 10 + (b - 48)) bs) None) ≡ None) [ true ↦ next | false ↦ refl ]

-- the digits up to a place spell too great a number, so all of them do
pub passed : (bytes : List ℕ) (i n least most : ℕ) → number_after 0 bytes ≡ number_after n (drop i bytes) → i < length bytes → most < n * 10 + (get_or bytes i 0 - 48) → None ≡ within least most (number_after 0 bytes)
passed bytes i n least most e lt over =
    sym (ap (λ r. within least most r) (e ∙ ap (λ l. number_after n l) (drop-cons bytes i 0 lt)) ∙ beyond_digit n (get_or bytes i 0) (drop (suc i) bytes) least most over)
