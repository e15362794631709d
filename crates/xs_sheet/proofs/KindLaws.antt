-- Kinds of pieces differ by their numbers.
use Rattle.std.proofs.Common.{◌≡◌, ℕ, zero, suc, Bool, true, false, List, [], ◌∷◌, ◌==◌, refl, sym, ap, ◌∙◌, eqb-true}
use Rattle.std.proofs.Common.{nat_eq, encode_utf8_all}
use Rattle.std.specs.Str.{chars}
use lib.Pointwise.{pointwise}
use Rattle.xs_lex.specs.declared.kind.Kind.{Kind}
use Rattle.xs_lex.specs.declared.kind.Kind.TheVariants.{Plain, Qual, Quoted, Pattern, Colon, Equals, SquareIn, SquareOut, Angle, AngleSlash, AngleEnd, SlashEnd, End, Bad}
use Rattle.xs_sheet.specs.Machine.{kind_number, is_kind}
use Rattle.xs_class.specs.Words.{same}
use Rattle.xs_class.proofs.Truth.{and_true, eq_self}
use Rattle.xs_class.proofs.Words.{same_is, same_self}

of_number : ℕ → Kind
of_number zero = Plain
of_number (suc zero) = Qual
of_number (suc (suc zero)) = Quoted
of_number (suc (suc (suc zero))) = Pattern
of_number (suc (suc (suc (suc zero)))) = Colon
of_number (suc (suc (suc (suc (suc zero))))) = Equals
of_number (suc (suc (suc (suc (suc (suc zero)))))) = SquareIn
of_number (suc (suc (suc (suc (suc (suc (suc zero))))))) = SquareOut
of_number (suc (suc (suc (suc (suc (suc (suc (suc zero)))))))) = Angle
of_number (suc (suc (suc (suc (suc (suc (suc (suc (suc zero))))))))) = AngleSlash
of_number (suc (suc (suc (suc (suc (suc (suc (suc (suc (suc zero)))))))))) = AngleEnd
of_number (suc (suc (suc (suc (suc (suc (suc (suc (suc (suc (suc zero))))))))))) = SlashEnd
of_number (suc (suc (suc (suc (suc (suc (suc (suc (suc (suc (suc (suc zero)))))))))))) = End
of_number (suc (suc (suc (suc (suc (suc (suc (suc (suc (suc (suc (suc (suc n))))))))))))) = Bad

number_back : (k : Kind) → of_number (kind_number k) ≡ k
unfolding of_number
number_back Plain = refl
number_back Qual = refl
number_back Quoted = refl
number_back Pattern = refl
number_back Colon = refl
number_back Equals = refl
number_back SquareIn = refl
number_back SquareOut = refl
number_back Angle = refl
number_back AngleSlash = refl
number_back AngleEnd = refl
number_back SlashEnd = refl
number_back End = refl
number_back Bad = refl

pub kind_is : (j k : Kind) → is_kind j k ≡ true → j ≡ k
unfolding is_kind
kind_is j k is = sym (number_back j) ∙ ap of_number (eqb-true (kind_number j) (kind_number k) is) ∙ number_back k

pub kind_self : (k : Kind) → is_kind k k ≡ true
unfolding is_kind
kind_self Plain = refl
kind_self Qual = refl
kind_self Quoted = refl
kind_self Pattern = refl
kind_self Colon = refl
kind_self Equals = refl
kind_self SquareIn = refl
kind_self SquareOut = refl
kind_self Angle = refl
kind_self AngleSlash = refl
kind_self AngleEnd = refl
kind_self SlashEnd = refl
kind_self End = refl
kind_self Bad = refl

pub kind_here : (j k : Kind) → j ≡ k → is_kind j k ≡ true
kind_here j k is = ap (λ (z : Kind). is_kind z k) is ∙ kind_self k

-- a piece of one kind is of no other
pub kind_other : (j k l : Kind) → j ≡ k → is_kind k l ≡ false → is_kind j l ≡ false
kind_other j k l is differs = ap (λ (z : Kind). is_kind z l) is ∙ differs

pub same_here : (xs ys : List ℕ) → xs ≡ ys → same xs ys ≡ true
same_here xs ys is = ap (λ (z : List ℕ). same z ys) is ∙ same_self ys

pub bytes_are : (xs ys : List ℕ) → pointwise nat_eq xs ys ≡ true → xs ≡ ys
bytes_are [] [] is = refl
bytes_are [] (y ∷ ys) is = absurd (cc)
bytes_are (x ∷ xs) [] is = absurd (cc)
bytes_are (x ∷ xs) (y ∷ ys) is = let p = and_true (x == y) (pointwise nat_eq xs ys) is in by (eqb-true x y p.0) (bytes_are xs ys p.1)
  where
    by : x ≡ y → xs ≡ ys → (x ∷ xs) ≡ y ∷ ys
    by e f = cc

pub bytes_self : (xs : List ℕ) → pointwise nat_eq xs xs ≡ true
bytes_self [] = refl
bytes_self (x ∷ xs) = rw (eq_self x) (bytes_self xs)

tested : (u v : Bool) (text bytes a b : List ℕ) → pointwise nat_eq text bytes ≡ u → same a b ≡ v → text ≡ encode_utf8_all a → bytes ≡ encode_utf8_all b → chars text ≡ a → chars bytes ≡ b → u ≡ v
tested true true text bytes a b p q e f g h = refl
tested false false text bytes a b p q e f g h = refl
tested true false text bytes a b p q e f g h =
    let eq : a ≡ b = sym g ∙ ap chars (bytes_are text bytes p) ∙ h in
    let yes = same_here a b eq in absurd (cc)
tested false true text bytes a b p q e f g h =
    let eq : text ≡ bytes = e ∙ ap encode_utf8_all (same_is a b q) ∙ sym f in
    let yes : pointwise nat_eq text bytes ≡ true = ap (λ (z : List ℕ). pointwise nat_eq z bytes) eq ∙ bytes_self bytes in absurd (cc)

-- texts are the same where their bytes are
pub text_test : (text bytes a b : List ℕ) → text ≡ encode_utf8_all a → bytes ≡ encode_utf8_all b → chars text ≡ a → chars bytes ≡ b → pointwise nat_eq text bytes ≡ same a b
text_test text bytes a b e f g h = tested (pointwise nat_eq text bytes) (same a b) text bytes a b refl refl e f g h
