-- One step of the reader after another.
use Rattle.std.proofs.Common.{◌≡◌, ◌≢◌, ◌⊎◌, ◌∙◌, ℕ, suc, Bool, true, false, ◌==◌, List, ◌∷◌, refl, sym, ap, subst, inl, inr, Bor, if◌then◌else◌}
use Rattle.std.proofs.lemmas.Bool.Decides.{eqb_tells}
use Rattle.std.specs.declared.result.Result.{Result}
use Rattle.xs_regex.specs.declared.fault.RegexFault.{RegexFault}
use Rattle.xs_regex.specs.declared.regex.Regex.{Regex}
use Rattle.xs_regex.specs.Characters.{set_at}
use Rattle.xs_regex.specs.Meaning.{Reads}
use Rattle.xs_regex.specs.Scan.{class_of, closed, regex_at, atom_at}
use Rattle.xs_regex.specs.Reported.{IsReported}

pub flat_reported : (n m d : ℕ) (cs rest : List ℕ) (c : ℕ) (r : Result (Regex × Bor (List ℕ)) RegexFault) → n ≡ suc m → d ≡ 0 → cs ≡ c ∷ rest → IsReported (class_of (set_at cs)) Reads r → IsReported (atom_at n d cs) Reads r
flat_reported n m d cs rest c r e z is h =
    let whole : atom_at n d cs ≡ class_of (set_at (c ∷ rest)) = ap (λ k. atom_at k d cs) e ∙ ap (λ k. atom_at (suc m) k cs) z ∙ ap (λ l. atom_at (suc m) 0 l) is in
    subst (λ o. IsReported o Reads r) (sym (whole ∙ ap (λ l. class_of (set_at l)) (sym is))) h

pub class_reported : (n m d k : ℕ) (cs rest : List ℕ) (c : ℕ) (r : Result (Regex × Bor (List ℕ)) RegexFault) → n ≡ suc m → d ≡ suc k → cs ≡ c ∷ rest → c ≢ 40 → IsReported (class_of (set_at cs)) Reads r → IsReported (atom_at n d cs) Reads r
class_reported n m d k cs rest c r e z is other h =
    let whole : atom_at n d cs ≡ atom_at (suc m) (suc k) (c ∷ rest) = ap (λ x. atom_at x d cs) e ∙ ap (λ x. atom_at (suc m) x cs) z ∙ ap (λ l. atom_at (suc m) (suc k) l) is in
    subst (λ o. IsReported o Reads r) (sym (whole ∙ by_test (c == 40) (eqb_tells c 40) ∙ ap (λ l. class_of (set_at l)) (sym is))) h
  where
    by_test : (b : Bool) → ((b ≡ true) × (c ≡ 40)) ⊎ ((b ≡ false) × (c ≢ 40)) → (if b then closed (regex_at m k rest) else class_of (set_at (c ∷ rest))) ≡ class_of (set_at (c ∷ rest))
    by_test true t = elim t [ inl h ↦ absurd (other h.1) | inr h ↦ absurd (true_false h.0) ]
      where
        true_false : true ≡ false → ⊥
        true_false e = cc
    by_test false t = refl

pub group_reported : (n m d k : ℕ) (cs rest : List ℕ) (c : ℕ) (r : Result (Regex × Bor (List ℕ)) RegexFault) → n ≡ suc m → d ≡ suc k → cs ≡ c ∷ rest → c ≡ 40 → IsReported (closed (regex_at m k rest)) Reads r → IsReported (atom_at n d cs) Reads r
group_reported n m d k cs rest c r e z is opens h =
    let whole : atom_at n d cs ≡ closed (regex_at m k rest) = ap (λ x. atom_at x d cs) e ∙ ap (λ x. atom_at (suc m) x cs) z ∙ ap (λ l. atom_at (suc m) (suc k) l) (is ∙ ap (λ x. x ∷ rest) opens) in
    subst (λ o. IsReported o Reads r) (sym whole) h
