-- Text that is put in a page.
use Rattle.std.proofs.Common.{◌≡◌, ℕ, ◌+◌, ◌/◌, ◌%◌, ◌^◌, ◌<◌, ◌≤◌, List, [], ◌∷◌, ◌++◌, length, length-append, length-set, take, set, decimal, refl, sym, ap, ◌∙◌, subst, arith, append_assoc}
use Rattle.std.proofs.lemmas.List.{take_more_set}
use Rattle.std.proofs.lemmas.Fmt.{decimal_digit, decimal_step, length-decimal-le}
use Rattle.xs_cert_lines.specs.Pages.{Puts}

pub put_byte : (page : List ℕ) (at b : ℕ) → at < length page → Puts page (set page at b) at (at + 1) (b ∷ [])
put_byte page at b l = record { text = take_more_set page at b l; size = length-set page at b; is = refl }

pub put_then : (old mid new : List ℕ) (at between end : ℕ) (t u : List ℕ) → Puts old mid at between t → Puts mid new between end u → Puts old new at end (t ++ u)
put_then old mid new at between end t u first second = record {
  text = second.text ∙ ap (λ z. z ++ u) first.text ∙ append_assoc (take at old) t u;
  size = second.size ∙ first.size;
  is = omega (arith, first.is, second.is, length-append t u);
}

-- numbers of one digit, and of more
pub one_digit : (n : ℕ) → n < 10 → length (decimal n) ≡ 1
one_digit n low = ap length (decimal_digit n low)

pub one_put : (page new : List ℕ) (at end n : ℕ) → n < 10 → Puts page new at end ((48 + n) ∷ []) → Puts page new at end (decimal n)
one_put page new at end n low put = subst (Puts page new at end) (sym (decimal_digit n low)) put

pub more_digits : (n : ℕ) → 10 ≤ n → n < 2 ^ 64 → length (decimal n) ≡ length (decimal (n / 10)) + 1
more_digits n high small = ap length (decimal_step n high small) ∙ length-append (decimal (n / 10)) ((48 + n % 10) ∷ [])

pub more_put : (old mid new : List ℕ) (at between end n : ℕ) → 10 ≤ n → n < 2 ^ 64 → Puts old mid at between (decimal (n / 10)) → Puts mid new between end ((48 + n % 10) ∷ []) → Puts old new at end (decimal n)
more_put old mid new at between end n high small first second =
    subst (Puts old new at end) (sym (decimal_step n high small)) (put_then old mid new at between end (decimal (n / 10)) ((48 + n % 10) ∷ []) first second)

pub ten_digits : (n : ℕ) → n < 2 ^ 32 → length (decimal n) ≤ 10
ten_digits n small = length-decimal-le 10 n (omega arith) (omega (arith, small)) (omega (arith, small))
