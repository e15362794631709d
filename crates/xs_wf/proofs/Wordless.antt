-- The first nonterminal without a word on one of the sides, by flags.
use Rattle.std.proofs.Common.{◌≡◌, ◌⊎◌, ◌<◌, ◌≤◌, ◌+◌, inl, inr, subst, ℕ, List, Bool, true, false, get_or, Some, None, arith}
use Rattle.std.specs.Prelude.{IsTrue, ◌↔◌, ◌&&◌}
use Rattle.std.proofs.lemmas.Bool.{cases_lt, and_parts}
use Rattle.xs_gram.specs.Sound.{IsProductive}
use Rattle.xs_order.specs.Order as O
use Rattle.xs_pair.specs.Grammars.{Pair}
use Rattle.xs_wf.specs.Nonterminals.{IsUnproductive, IsWordless, AreProductive, IsFirstNon}
use Rattle.xs_class.proofs.Truth.{false_true}

-- the nonterminals below a number derive words on both sides
abbrev pub AreProductiveBelow : Pair → ℕ → Type 0
AreProductiveBelow p end = (n : ℕ) → n < end → IsProductive p.text n × IsProductive p.xml n

both_derive : (a b : Bool) (P Q : Type 0) → IsTrue a ↔ P → IsTrue b ↔ Q → (a && b) ≡ true → P × Q
both_derive a b P Q one two set = let both = and_parts a b set in (one.0 both.0, two.0 both.1)

one_not : (a b : Bool) (P Q : Type 0) → IsTrue a ↔ P → IsTrue b ↔ Q → (a && b) ≡ false → (P → ⊥) ⊎ (Q → ⊥)
one_not false b P Q one two unset = inl (λ h. false_true (one.1 h))
one_not true false P Q one two unset = inr (λ h. false_true (two.1 h))
one_not true true P Q one two unset = cc

pub set_more : (p : Pair) (text xml : List Bool) (n : ℕ) → p.text.nons ≡ p.xml.nons → O.AreProductive p.text text → O.AreProductive p.xml xml → n < p.text.nons → (get_or text n false && get_or xml n false) ≡ true → AreProductiveBelow p n → AreProductiveBelow p (n + 1)
set_more p text xml n same one two lt set before m low = by_case (cases_lt m n)
  where
    here : IsProductive p.text n × IsProductive p.xml n
    here = both_derive (get_or text n false) (get_or xml n false) (IsProductive p.text n) (IsProductive p.xml n) (one.exact n lt) (two.exact n (omega arith)) set

    by_case : (m < n) ⊎ (n ≤ m) → IsProductive p.text m × IsProductive p.xml m
    by_case (inl less) = before m less
    by_case (inr more) = let is : n ≡ m = omega arith in subst (λ (k : ℕ). IsProductive p.text k × IsProductive p.xml k) is here

not_wordless : (p : Pair) (n : ℕ) → IsProductive p.text n × IsProductive p.xml n → IsUnproductive p n → ⊥
not_wordless p n both (inl none) = none both.0
not_wordless p n both (inr none) = none both.1

pub unset_first : (p : Pair) (text xml : List Bool) (n : ℕ) → p.text.nons ≡ p.xml.nons → O.AreProductive p.text text → O.AreProductive p.xml xml → n < p.text.nons → (get_or text n false && get_or xml n false) ≡ false → AreProductiveBelow p n → IsFirstNon (IsWordless p) (Some n)
unset_first p text xml n same one two lt unset before = record {
  fails = (lt, one_not (get_or text n false) (get_or xml n false) (IsProductive p.text n) (IsProductive p.xml n) (one.exact n lt) (two.exact n (omega arith)) unset);
  least = λ m wordless. by_case m wordless.1 (cases_lt m n);
}
  where
    by_case : (m : ℕ) → IsUnproductive p m → (m < n) ⊎ (n ≤ m) → n ≤ m
    by_case m none (inl less) = absurd (not_wordless p m (before m less) none)
    by_case m none (inr more) = more

pub all_set : (p : Pair) (end : ℕ) → p.text.nons ≤ end → AreProductiveBelow p end → AreProductive p
all_set p end long all n lt = all n (omega arith)

pub none_wordless : (p : Pair) → AreProductive p → IsFirstNon (IsWordless p) None
none_wordless p all n wordless = not_wordless p n (all n wordless.0) wordless.1
