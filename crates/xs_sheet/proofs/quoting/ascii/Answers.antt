use Rattle.std.proofs.Common.{◌≡◌, ℕ, zero, suc, ◌<◌, Bool, true, false, ◌&&◌, nat_lt, List, [], ◌∷◌, Ok, Err, MatchResult, IsOk, arith, refl}
use Rattle.std.proofs.lemmas.Bool.Decides.{nat_tests}
use Rattle.std.proofs.lemmas.Str.{IsUtf8-from_ascii}
use Rattle.std.specs.declared.result.Result.{Result}
use Rattle.std.specs.List.{list_all}
use Rattle.std.specs.Str.{IsAscii}
use Rattle.xs_sheet.proofs.quoting.ascii.Goals as goal

first_or_rest : (b : ℕ) (rest t : Bool) → nat_lt b 128 ≡ t → (t && rest) ≡ true → (b < 128) × (rest ≡ true)
first_or_rest b rest true is both = (grind (arith, nat_tests), both)
first_or_rest b rest false is both = absurd (cc)

below : (bs : List ℕ) → list_all (λ b. nat_lt b 128) bs ≡ true → IsAscii bs
below [] low i = omega arith
below (b ∷ bs) low zero = (first_or_rest b (list_all (λ b. nat_lt b 128) bs) (nat_lt b 128) refl low).0
below (b ∷ bs) low (suc i) = below bs (first_or_rest b (list_all (λ b. nat_lt b 128) bs) (nat_lt b 128) refl low).1 i

ok_of : {X E : Type 0} (r : Result X E) (P : X → Type 0) (Q : E → Type 0) → MatchResult r P Q → ((e : E) → Q e → ⊥) → IsOk r
ok_of (Ok x) P Q cases never = refl
ok_of (Err e) P Q cases never = absurd (never e cases)

pub unwrap-requires : goal.unwrap-requires
unwrap-requires c = ok_of c.from_utf8.result _ _ c.from_utf8.ensures.cases (λ e fault. fault.0 (IsUtf8-from_ascii c.args.bytes.now (below c.args.bytes.now c.requires)))
