-- Rows of the places of clauses.
use Rattle.std.proofs.Common.{◌≡◌, ℕ, ◌+◌, ◌<◌, List, [], ◌∷◌, ◌++◌, length, get_or, set, take, refl, sym, ap, ◌∙◌, inl, inr, arith, get_or-set_same, get_or-set_other, length-set, ◌≢◌}
use Rattle.std.specs.List.{Contains}
use Rattle.std.proofs.lemmas.Bool.{cases_lt, cases_eq}
use Rattle.std.proofs.lemmas.List.{take_more}
use Rattle.std.proofs.lemmas.List.Elements.{Contains-append_left, Contains-push, Contains-push_cases}
use Rattle.xs_clauses.specs.declared.clause.Clause.{Clause}
use Rattle.xs_clauses.specs.Search.{clause_of, AreBlank, IsNoted, AreUsesTo}

pub noted_none : (place : ℕ) (uses : List (List ℕ)) → IsNoted [] place uses uses
noted_none place uses = record {
  rows = refl;
  kept = λ n k h. h;
  noted = λ n h. absurd (omega (arith, h.1));
  only = λ n k h. inl h;
}

-- the place is added to the row of one more premise
pub noted_more : (premises : List ℕ) (place : ℕ) (uses old new : List (List ℕ)) (i number : ℕ) (row : List ℕ) → i < length premises → number ≡ get_or premises i 0 → number < length old → row ≡ get_or old number [] → new ≡ set old number (row ++ place ∷ []) → IsNoted (take i premises) place uses old → IsNoted (take (i + 1) premises) place uses new
noted_more premises place uses old new i number row l is low e f known = record {
  rows = ap length f ∙ length-set old number (row ++ place ∷ []) ∙ known.rows;
  kept = λ n k h. kept n k (known.kept n k h);
  noted = λ n h. elim (Contains-push_cases (take i premises) number n (rw front at h)) [
    | inl before ↦ kept n place (known.noted n before)
    | inr here ↦ rw (← here, same) (Contains-push row place)
  ];
  only = λ n k h. elim (cases_eq n number) [
    | inl here ↦ elim (Contains-push_cases row place k (rw (here, same) at h)) [
      | inl before ↦ known.only n k (rw (here, ← e) before)
      | inr p ↦ inr (sym p)
    ]
    | inr other ↦ known.only n k (rw (others n other) at h)
  ];
}
  where
    front : take (i + 1) premises ≡ take i premises ++ number ∷ []
    front = take_more premises i 0 l ∙ ap (λ (x : ℕ). take i premises ++ x ∷ []) (sym is)

    same : get_or new number [] ≡ row ++ place ∷ []
    same = rw f (get_or-set_same old number (row ++ place ∷ []) [] low)

    others : (n : ℕ) → n ≢ number → get_or new n [] ≡ get_or old n []
    others n ne = rw f (get_or-set_other old number n (row ++ place ∷ []) [] ne)

    kept : (n k : ℕ) → Contains (get_or old n []) k → Contains (get_or new n []) k
    kept n k h = elim (cases_eq n number) [
      | inl here ↦ rw (here, same, e) (Contains-append_left (get_or old number []) (place ∷ []) k (rw here at h))
      | inr other ↦ rw (others n other) h
    ]

pub uses_none : (clauses : List Clause) (count : ℕ) (uses : List (List ℕ)) → AreBlank count uses → AreUsesTo clauses 0 uses
uses_none clauses count uses blank = record {
  noted = λ k n l. absurd (omega arith);
  places = λ n k h. absurd (omega (arith, (rw blank.blank at h).1));
}

-- the next clause was noted
pub uses_more : (clauses : List Clause) (uses new : List (List ℕ)) (k : ℕ) (premises : List ℕ) → k < length clauses → premises ≡ (clause_of clauses k).premises → IsNoted premises k uses new → AreUsesTo clauses k uses → AreUsesTo clauses (k + 1) new
uses_more clauses uses new k premises l e noted known = record {
  noted = λ j n h has. elim (cases_lt j k) [
    | inl before ↦ noted.kept n j (known.noted j n before has)
    | inr after ↦
        let here : j ≡ k = omega arith in
        rw here (noted.noted n (rw e (rw here at has)))
  ];
  places = λ n j h. elim (noted.only n j h) [
    | inl before ↦ known.places n j before
    | inr here ↦ rw here l
  ];
}
