-- Words that are texts, and the names of no sheet.
use Rattle.std.proofs.Common.{◌≡◌, ◌∙◌, ℕ, List, [], ◌∷◌, map, refl, ap, arith}
use Rattle.std.specs.Prelude.{Result, Ok, Err, IfOk, Contains}
use Rattle.xs_class.specs.Ordered.{AreNamesOf}
use Rattle.xs_class.specs.declared.memory.Memory.{Memory}

pub same_words : {S : Type 0} (f : S → List ℕ) (xs ys : List S) (words : List (List ℕ)) → xs ≡ ys → map f ys ≡ words → map f xs ≡ words
same_words f xs ys words same are = ap (λ (all : List _). map f all) same ∙ are

not_in_none : (name : List ℕ) → Contains [] name → ⊥
not_in_none name (k, below, is) = omega (arith, below)

no_names_are : (names : List (List ℕ)) → AreNamesOf [] names → names ≡ []
no_names_are [] are = refl
no_names_are (n ∷ ns) are = absurd (not_in_none n ((are.same n).0 (0, omega arith, refl)))

pub no_names_if : (r : Result (List (List ℕ)) Memory) → IfOk r (AreNamesOf []) → IfOk r (λ names. names ≡ [])
no_names_if (Ok names) are = no_names_are names are
no_names_if (Err e) are = are
