-- The tree of a derivation fits: each slot has a child, and it is of the slot's kind.
use Rattle.std.proofs.Common.{◌≡◌, ◌≢◌, inl, inr, ℕ, zero, suc, ◌+◌, ◌<◌, List, [], ◌∷◌, length, Some, None, refl, sym, ◌∙◌, ap, arith, subst}
use Rattle.std.proofs.lemmas.Bool.Decides.{eqb_tells}
use Rattle.xs_gram.specs.declared.parts.GItem.{GItem}
use Rattle.xs_gram.specs.declared.parts.GItem.TheVariants.{Fixed, Term, Non, Skip}
use Rattle.xs_gram.specs.Grammar.{Grammar, items, slots}
use Rattle.xs_gram.specs.Derivations.{Parts, done, fixed, leaf, skip, sub, FitsItems}
use Rattle.xs_gram.specs.Common.{Common, lookup, child_of, in_order, children, named, Kind, kinds, KidsFit, KidFits}
use Rattle.xs_gram.specs.Laws.{IsNumbered, HasNumberedSlots}
use Rattle.xs_gram.proofs.Entries.{keys_are, lookup_same, lookup_other, found}
use Rattle.xs_turn.specs.Laws.{StrippedFits}

some_is : (t u : Common) → Some t ≡ Some u → t ≡ u
some_is t u e = cc

some_none : (t : Common) → Some t ≡ None → ⊥
some_none t e = cc

-- slot by slot, the child is of the kind
abbrev AreOf : Grammar → List (ℕ × Kind) → List (ℕ × Common) → Type 0
AreOf g [] [] = Unit {0}
AreOf g [] (e ∷ es) = ⊥
AreOf g (k ∷ ks) [] = ⊥
AreOf g (k ∷ ks) (e ∷ es) = (k.0 ≡ e.0) × KidFits g (Some k.1) e.1 × AreOf g ks es

as_many : (g : Grammar) (ks : List (ℕ × Kind)) (es : List (ℕ × Common)) → AreOf g ks es → length ks ≡ length es
as_many g [] [] of = refl
as_many g [] (e ∷ es) of = absurd of
as_many g (k ∷ ks) [] of = absurd of
as_many g (k ∷ ks) (e ∷ es) of = ap suc (as_many g ks es of.2)

-- a child that is found is of the kind found there
of_its_kind : (g : Grammar) (ks : List (ℕ × Kind)) (es : List (ℕ × Common)) → AreOf g ks es → (slot : ℕ) (t : Common) → lookup slot es ≡ Some t → KidFits g (lookup slot ks) t
of_its_kind g [] [] of slot t e = absurd (some_none t (sym e))
of_its_kind g [] (x ∷ es) of slot t e = absurd of
of_its_kind g (k ∷ ks) [] of slot t e = absurd of
of_its_kind g ((s, k) ∷ ks) ((r, u) ∷ es) of slot t e = elim (eqb_tells slot s) [
  | inl (one, same) ↦
      let kind : lookup slot ((s, k) ∷ ks) ≡ Some k = ap (λ x. lookup x ((s, k) ∷ ks)) same ∙ lookup_same s k ks in
      let child : lookup slot ((r, u) ∷ es) ≡ Some u = ap (λ x. lookup x ((r, u) ∷ es)) (same ∙ of.0) ∙ lookup_same r u es in
      let is : u ≡ t = some_is u t (sym child ∙ e) in
      subst (λ o. KidFits g o t) (sym kind) (subst (λ c. KidFits g (Some k) c) is of.1)
  | inr (two, ne) ↦
      let apart : slot ≢ r = λ h. ne (h ∙ sym of.0) in
      subst (λ o. KidFits g o t) (sym (lookup_other s slot k ks ne)) (of_its_kind g ks es of.2 slot t (sym (lookup_other r slot u es apart) ∙ e))
]

-- the children from a slot on
ordered_fit : (g : Grammar) (is : List GItem) (es : List (ℕ × Common)) → AreOf g (kinds is) es → ((s : ℕ) → s < length es → (t : Common) × (lookup s es ≡ Some t)) → (n slot : ℕ) → slot + n ≡ length es → KidsFit g is slot (in_order n slot es)
ordered_fit g is es of all zero slot e = omega (arith, as_many g (kinds is) es of)
ordered_fit g is es of all (suc n) slot e =
    let child = all slot (omega arith) in
    let fits = of_its_kind g (kinds is) es of slot child.0 child.1 in
    (subst (λ c. KidFits g (lookup slot (kinds is)) c) (ap child_of (sym child.1)) fits, ordered_fit g is es of all n (slot + 1) (omega arith))

children_fit : (g : Grammar) (is : List GItem) (ps : Parts) → IsNumbered (slots is) → FitsItems g is ps → AreOf g (kinds is) (named g is ps) → KidsFit g is 0 (children (named g is ps))
children_fit g is ps numbered fit of =
    let es : List (ℕ × Common) = named g is ps in
    ordered_fit g is es of (found es (subst IsNumbered (sym (keys_are g is ps fit)) numbered)) (length es) 0 (omega arith)

-- the parts that have a slot are of the slots' kinds
named_fit : (g : Grammar) → HasNumberedSlots g → (is : List GItem) (ps : Parts) → FitsItems g is ps → AreOf g (kinds is) (named g is ps)
named_fit g numbered [] done fit = tt
named_fit g numbered (Fixed f ∷ is) (fixed u ps) fit = named_fit g numbered is ps fit.1
named_fit g numbered (Term t s ∷ is) (leaf u ps) fit = (refl, fit.0, named_fit g numbered is ps fit.1)
named_fit g numbered (Skip k ∷ is) (skip u ps) fit = named_fit g numbered is ps fit.1
named_fit g numbered (Non n s ∷ is) (sub q qs ps) fit =
    let inner = children_fit g (items g q) qs (numbered q) fit.1 (named_fit g numbered (items g q) qs fit.1) in
    (refl, (fit.0, inner), named_fit g numbered is ps fit.2)
named_fit g numbered is ps fit = absurd fit

pub stripped_fits_lem : StrippedFits
stripped_fits_lem g non d numbered fit =
    (fit.0, children_fit g (items g d.rule) d.parts (numbered d.rule) fit.1 (named_fit g numbered (items g d.rule) d.parts fit.1))
