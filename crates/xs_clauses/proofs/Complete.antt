-- What clauses make is the least set that is closed under them.
use Rattle.std.proofs.Common.{◌≡◌, ℕ, zero, suc, ◌<◌, Bool, List, [], ◌∷◌, length, get_or, sym, subst, ◌∙◌, arith, refl}
use Rattle.std.specs.List.{Contains}
use Rattle.std.proofs.lemmas.List.{get_or_default}
use Rattle.std.proofs.lemmas.List.Elements.{Contains-get_or}
use Rattle.xs_clauses.specs.declared.clause.Clause.{Clause}
use Rattle.xs_clauses.specs.Made.{IsMade, by, AreMade, none, more}
use Rattle.xs_clauses.specs.Search.{IsSet, clause_of, no_clause, IsClosed}

pub all_made : (clauses : List Clause) (ns : List ℕ) → ((i : ℕ) → i < length ns → IsMade clauses (get_or ns i 0)) → AreMade clauses ns
all_made clauses [] each = none
all_made clauses (n ∷ ns) each = more (each 0 (omega arith)) (all_made clauses ns (λ i l. each (suc i) (omega arith)))

-- the head of a clause is made where its premises are
pub head_is_made : (clauses : List Clause) (c : Clause) → Contains clauses c → ((m : ℕ) → Contains c.premises m → IsMade clauses m) → IsMade clauses c.head
head_is_made clauses c has each = by c has refl (all_made clauses c.premises (λ i l. each (get_or c.premises i 0) (Contains-get_or c.premises i 0 l)))

-- what holds of the head of each clause of whose premises it holds, holds of each number that is made
mutual
  pub made_least : (clauses : List Clause) (P : ℕ → Type 0) → ((c : Clause) → Contains clauses c → ((m : ℕ) → Contains c.premises m → P m) → P c.head) → (n : ℕ) → IsMade clauses n → P n
  made_least clauses P closed n (by c has is premises) = subst P is (closed c has (premises_hold clauses P closed c.premises premises))

  premises_hold : (clauses : List Clause) (P : ℕ → Type 0) → ((c : Clause) → Contains clauses c → ((m : ℕ) → Contains c.premises m → P m) → P c.head) → (ns : List ℕ) → AreMade clauses ns → (m : ℕ) → Contains ns m → P m
  premises_hold clauses P closed [] none m has = absurd (omega (arith, has.1))
  premises_hold clauses P closed (n ∷ ns) (more one rest) m (zero, l, e) = subst P e (made_least clauses P closed n one)
  premises_hold clauses P closed (n ∷ ns) (more one rest) m (suc k, l, e) = premises_hold clauses P closed ns rest m (k, omega arith, e)

-- each clause of the list stands at a place
head_set : (clauses : List Clause) (flags : List Bool) (c : Clause) → Contains clauses c → IsClosed clauses flags → ((n : ℕ) → Contains c.premises n → IsSet flags n) → IsSet flags c.head
head_set clauses flags c has closed each =
    let same : clause_of clauses has.0 ≡ c = get_or_default clauses has.0 no_clause c has.1 ∙ has.2 in
    subst (λ (d : Clause). IsSet flags d.head) same (closed has.0 has.1 (subst (λ (d : Clause). (n : ℕ) → Contains d.premises n → IsSet flags n) (sym same) each))

pub made_is_set : (clauses : List Clause) (flags : List Bool) (n : ℕ) → IsClosed clauses flags → IsMade clauses n → IsSet flags n
made_is_set clauses flags n closed made = made_least clauses (λ m. IsSet flags m) (λ c has each. head_set clauses flags c has closed each) n made
