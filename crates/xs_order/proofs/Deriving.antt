-- Derivations with good leaves, and what clauses of rules make.
use Rattle.std.proofs.Common.{◌≡◌, ◌↔◌, ℕ, zero, suc, Bool, true, List, [], ◌∷◌, length, refl, sym, subst, arith}
use Rattle.std.specs.Bool.{IsTrue}
use Rattle.std.specs.List.{Contains}
use Rattle.std.proofs.lemmas.Bool.{and_parts, and_from}
use Rattle.std.proofs.lemmas.Option.{slice_get_read}
use Rattle.xs_clauses.specs.declared.clause.Clause.{Clause}
use Rattle.xs_clauses.specs.Made.{IsMade, AreFlags}
use Rattle.xs_clauses.proofs.Complete.{head_is_made, made_least}
use Rattle.xs_gram.specs.declared.parts.GItem.{GItem}
use Rattle.xs_gram.specs.declared.parts.GItem.TheVariants.{Fixed, Term, Non, Skip}
use Rattle.xs_gram.specs.Grammar.{Grammar, items, ItemAt, IsTermWord, IsSkipWord}
use Rattle.xs_gram.specs.Derivations.{Parts, done, fixed, leaf, skip, sub, FitsItems}
use Rattle.xs_order.specs.declared.leaves.Leaves.{Leaves}
use Rattle.xs_order.specs.Leaves.{is_good, all_good}
use Rattle.xs_order.specs.Rules.{nons_of, clause_at, AreClauses, AreMadeFlags}
use Rattle.xs_order.specs.Wanted.{AllLeaves, IsDerived}
use Rattle.xs_class.proofs.Lists.{first_in, rest_in}

-- the item, if it is no nonterminal, has a word of which W holds
abbrev pub HasWord : Grammar → (List ℕ → Type 0) → GItem → Type 0
HasWord g W (Fixed f) = W f
HasWord g W (Term t s) = (u : List ℕ) × IsTermWord g t u × W u
HasWord g W (Non n s) = Unit {0}
HasWord g W (Skip k) = (u : List ℕ) × IsSkipWord g k u × W u

-- the good items of rules are exactly those that have such a word
abbrev pub AreGood : Grammar → (List ℕ → Type 0) → Leaves → Type 0
AreGood g W l = (p k : ℕ) (item : GItem) → ItemAt g p k item → IsTrue (is_good l item) ↔ HasWord g W item

-- the same of items alone
abbrev Agree : Grammar → (List ℕ → Type 0) → Leaves → List GItem → Type 0
Agree g W l is = (item : GItem) → Contains is item → IsTrue (is_good l item) ↔ HasWord g W item

in_rule : (g : Grammar) (W : List ℕ → Type 0) (l : Leaves) (p : ℕ) → AreGood g W l → Agree g W l (items g p)
in_rule g W l p good item (k, lt, e) = good p k item (slice_get_read (items g p) (length (items g p)) k item refl lt (sym e))

tail_agrees : (g : Grammar) (W : List ℕ → Type 0) (l : Leaves) (i : GItem) (is : List GItem) → Agree g W l (i ∷ is) → Agree g W l is
tail_agrees g W l i is agree item h = agree item (rest_in i is item h)

-- parts for items whose nonterminals are derived
parts_of : (g : Grammar) (W : List ℕ → Type 0) (l : Leaves) (is : List GItem) → Agree g W l is → all_good l is ≡ true → ((m : ℕ) → Contains (nons_of is) m → IsDerived g W m) → (ps : Parts) × FitsItems g is ps × AllLeaves W ps
parts_of g W l [] agree good derived = (done, tt, tt)
parts_of g W l (Fixed f ∷ is) agree good derived =
    let both = and_parts (is_good l (Fixed f)) (all_good l is) good in
    let rest = parts_of g W l is (tail_agrees g W l (Fixed f) is agree) both.1 derived in
    (fixed f rest.0, (refl, rest.1), ((agree (Fixed f) (first_in (Fixed f) is)).0 both.0, rest.2))
parts_of g W l (Term t s ∷ is) agree good derived =
    let both = and_parts (is_good l (Term t s)) (all_good l is) good in
    let rest = parts_of g W l is (tail_agrees g W l (Term t s) is agree) both.1 derived in
    let word = (agree (Term t s) (first_in (Term t s) is)).0 both.0 in
    (leaf word.0 rest.0, (word.1, rest.1), (word.2, rest.2))
parts_of g W l (Skip k ∷ is) agree good derived =
    let both = and_parts (is_good l (Skip k)) (all_good l is) good in
    let rest = parts_of g W l is (tail_agrees g W l (Skip k) is agree) both.1 derived in
    let word = (agree (Skip k) (first_in (Skip k) is)).0 both.0 in
    (skip word.0 rest.0, (word.1, rest.1), (word.2, rest.2))
parts_of g W l (Non n s ∷ is) agree good derived =
    let both = and_parts (is_good l (Non n s)) (all_good l is) good in
    let rest = parts_of g W l is (tail_agrees g W l (Non n s) is agree) both.1 (λ m h. derived m (rest_in n (nons_of is) m h)) in
    let inner = derived n (first_in n (nons_of is)) in
    (sub inner.0.rule inner.0.parts rest.0, (inner.1.0, inner.1.1, rest.1), (inner.2, rest.2))

-- what is made is derived
pub made_is_derived : (g : Grammar) (W : List ℕ → Type 0) (l : Leaves) (clauses : List Clause) → AreGood g W l → AreClauses g l (length g.rules) clauses → (n : ℕ) → IsMade clauses n → IsDerived g W n
made_is_derived g W l clauses good are = made_least clauses (IsDerived g W) closed
  where
    closed : (c : Clause) → Contains clauses c → ((m : ℕ) → Contains c.premises m → IsDerived g W m) → IsDerived g W c.head
    closed c has each =
        let rule = are.only c has in
        let p = rule.0 in
        let parts = parts_of g W l (items g p) (in_rule g W l p good) rule.1.good (subst (λ (d : Clause). (m : ℕ) → Contains d.premises m → IsDerived g W m) rule.2 each) in
        subst (λ (d : Clause). IsDerived g W d.head) (sym rule.2) (record { rule = p; parts = parts.0 }, ((rule.1.rule, refl), parts.1), parts.2)

-- the items of parts are good, and their nonterminals are made
read_parts : (g : Grammar) (W : List ℕ → Type 0) (l : Leaves) (clauses : List Clause) → AreGood g W l → AreClauses g l (length g.rules) clauses → (is : List GItem) (ps : Parts) → Agree g W l is → FitsItems g is ps → AllLeaves W ps → (all_good l is ≡ true) × ((m : ℕ) → Contains (nons_of is) m → IsMade clauses m)
read_parts g W l clauses good are [] done agree fit leaves = (refl, λ m h. absurd (omega (arith, h.1)))
read_parts g W l clauses good are (Fixed f ∷ is) (fixed u ps) agree fit leaves =
    let rest = read_parts g W l clauses good are is ps (tail_agrees g W l (Fixed f) is agree) fit.1 leaves.1 in
    (and_from _ _ ((agree (Fixed f) (first_in (Fixed f) is)).1 (subst W fit.0 leaves.0)) rest.0, rest.1)
read_parts g W l clauses good are (Term t s ∷ is) (leaf u ps) agree fit leaves =
    let rest = read_parts g W l clauses good are is ps (tail_agrees g W l (Term t s) is agree) fit.1 leaves.1 in
    (and_from _ _ ((agree (Term t s) (first_in (Term t s) is)).1 (u, fit.0, leaves.0)) rest.0, rest.1)
read_parts g W l clauses good are (Skip k ∷ is) (skip u ps) agree fit leaves =
    let rest = read_parts g W l clauses good are is ps (tail_agrees g W l (Skip k) is agree) fit.1 leaves.1 in
    (and_from _ _ ((agree (Skip k) (first_in (Skip k) is)).1 (u, fit.0, leaves.0)) rest.0, rest.1)
read_parts g W l clauses good are (Non n s ∷ is) (sub q qs ps) agree fit leaves =
    let rest = read_parts g W l clauses good are is ps (tail_agrees g W l (Non n s) is agree) fit.2 leaves.1 in
    let inner = read_parts g W l clauses good are (items g q) qs (in_rule g W l q good) fit.1 leaves.0 in
    let made : IsMade clauses n = subst (λ (m : ℕ). IsMade clauses m) fit.0.1 (head_is_made clauses (clause_at g q) (are.there q (record { rule = fit.0.0; good = inner.0 })) inner.1) in
    (rest.0, each n (nons_of is) made rest.1)
  where
    each : (n : ℕ) (ns : List ℕ) → IsMade clauses n → ((m : ℕ) → Contains ns m → IsMade clauses m) → (m : ℕ) → Contains (n ∷ ns) m → IsMade clauses m
    each n ns one others m (zero, lt, e) = subst (λ (x : ℕ). IsMade clauses x) e one
    each n ns one others m (suc k, lt, e) = others m (k, omega arith, e)
read_parts g W l clauses good are is ps agree fit leaves = absurd fit

pub derived_is_made : (g : Grammar) (W : List ℕ → Type 0) (l : Leaves) (clauses : List Clause) → AreGood g W l → AreClauses g l (length g.rules) clauses → (n : ℕ) → IsDerived g W n → IsMade clauses n
derived_is_made g W l clauses good are n (d, fits, leaves) =
    let inner = read_parts g W l clauses good are (items g d.rule) d.parts (in_rule g W l d.rule good) fits.1 leaves in
    subst (λ (m : ℕ). IsMade clauses m) fits.0.1 (head_is_made clauses (clause_at g d.rule) (are.there d.rule (record { rule = fits.0.0; good = inner.0 })) inner.1)

-- so the flags are exact
pub flags_are_exact : (g : Grammar) (W : List ℕ → Type 0) (l : Leaves) (flags : List Bool) → AreGood g W l → AreMadeFlags g l flags → AreFlags (IsDerived g W) g.nons flags
flags_are_exact g W l flags good made = record {
  counted = made.made.counted;
  exact = λ n lt.
      let exact = made.made.exact n lt in
      (λ s. made_is_derived g W l made.clauses good made.are n (exact.0 s), λ d. exact.1 (derived_is_made g W l made.clauses good made.are n d));
}
