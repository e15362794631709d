-- Where both grammars are sound, each slot and the root can have some tree.
use Rattle.std.proofs.Common.{◌≡◌, ◌≢◌, ℕ, zero, suc, ◌+◌, ◌<◌, Bool, true, false, List, [], ◌∷◌, length, set, refl, sym, ◌∙◌, ap, subst, arith, Some, None, ◌==◌, eqb-true}
use Rattle.std.specs.Prelude.{slice_get}
use Rattle.std.specs.declared.option.Option.{Option}
use Rattle.std.proofs.lemmas.Option.{none-some, same_Some}
use Rattle.std.proofs.lemmas.Bool.Decides.{nat_tests}
use Rattle.xs_gram.specs.declared.parts.GItem.{GItem}
use Rattle.xs_gram.specs.declared.parts.GItem.TheVariants.{Fixed, Term, Non, Skip}
use Rattle.xs_gram.specs.Grammar.{Grammar, items, slots, term_of}
use Rattle.xs_gram.specs.Derivations.{Parts, done, fixed, leaf as leaf_part, skip, sub, FitsItems}
use Rattle.xs_gram.specs.Common.{Common, word, Kind, of_term, of_non, kinds, lookup}
use Rattle.xs_gram.specs.Laws.{Every, IsDistinct, HasNumberedSlots}
use Rattle.xs_gram.specs.Sound.{IsSound}
use Rattle.xs_gram.proofs.Lookup.{AllOf, keys, length-keys, each_found}
use Rattle.xs_chart_laws.proofs.Fillings.{some_word}
use Rattle.xs_pair.specs.Grammars.{Pair}
use Rattle.xs_outline.specs.Shapes.{Shape, leaf, node, Branches, none, branch, slot_count, kind_at, empty_cells, meaning, ShapeFits, BranchesFit, HasSlotNames}
use Rattle.xs_outline.proofs.Machine.{not_full}
use Rattle.xs_outline.proofs.Viable.{CanFill}
use Rattle.xs_outline.proofs.Fitting.{AreOwed, all_owed, none_at, set_other}
use Rattle.xs_outline.proofs.Pairs.{slots_are}

-- the branches of a derivation's parts, in the order of the items
abbrev pub parts_branches : Grammar → List GItem → Parts → Branches
parts_branches g (Fixed f ∷ is) (fixed u ps) = parts_branches g is ps
parts_branches g (Term t s ∷ is) (leaf_part u ps) = branch s (leaf u) (parts_branches g is ps)
parts_branches g (Skip k ∷ is) (skip u ps) = parts_branches g is ps
parts_branches g (Non n s ∷ is) (sub q qs ps) = branch s (node q (parts_branches g (items g q) qs)) (parts_branches g is ps)
parts_branches g _ _ = none

next_place : (d n : ℕ) → d + suc n ≡ suc d + n
next_place d n = omega arith

module _ (p : Pair) (names : HasSlotNames p) (numbers : HasNumberedSlots p.text) where
  rule_long : (q : ℕ) → length (slots (items p.text q)) ≡ slot_count p q
  rule_long q = ap length (slots_are (items p.text q)) ∙ length-keys (kinds (items p.text q)) ∙ names.counts q

  rule_owed : (q : ℕ) → AreOwed (empty_cells p q) (slots (items p.text q))
  rule_owed q = all_owed (slot_count p q) (slots (items p.text q)) (rule_long q) (subst (λ n. Every (λ s. s < n) (slots (items p.text q))) (rule_long q) (numbers q).below) (numbers q).once

  rule_found : (q : ℕ) → AllOf (λ e. lookup e.0 (kinds (items p.text q)) ≡ Some e.1) (kinds (items p.text q))
  rule_found q = each_found (kinds (items p.text q)) (subst IsDistinct (slots_are (items p.text q)) (numbers q).once)

  parts_fit : (q : ℕ) (is : List GItem) (ps : Parts) (cells : List (Option Common)) → FitsItems p.text is ps → AreOwed cells (slots is) → AllOf (λ e. lookup e.0 (kinds (items p.text q)) ≡ Some e.1) (kinds is) → BranchesFit p q cells (parts_branches p.text is ps)
  parts_fit q [] done cells fit owes all = owes
  parts_fit q (Fixed f ∷ is) (fixed u ps) cells fit owes all = parts_fit q is ps cells fit.1 owes all
  parts_fit q (Skip k ∷ is) (skip u ps) cells fit owes all = parts_fit q is ps cells fit.1 owes all
  parts_fit q (Term t s ∷ is) (leaf_part u ps) cells fit owes all =
      (owes.0, subst (λ o. ShapeFits p o (leaf u)) (sym all.0) fit.0, parts_fit q is ps (set cells s (Some (word u))) fit.1 (owes.1 (word u)) all.1)
  parts_fit q (Non n s ∷ is) (sub r qs ps) cells fit owes all =
      let sh = node r (parts_branches p.text (items p.text r) qs) in
      let inner : ShapeFits p (Some (of_non n)) sh = (fit.0, parts_fit r (items p.text r) qs (empty_cells p r) fit.1 (rule_owed r) (rule_found r)) in
      (owes.0, subst (λ o. ShapeFits p o sh) (sym all.0) inner, parts_fit q is ps (set cells s (Some (meaning p sh))) fit.2 (owes.1 (meaning p sh)) all.1)
  parts_fit q is ps cells fit owes all = absurd fit

  -- a nonterminal has some shape
  non_filled : IsSound p.text → (n : ℕ) → n < p.text.nons → (sh : Shape) × ShapeFits p (Some (of_non n)) sh
  non_filled sound n lt =
      let d = sound.productive n lt in (
        node d.0.rule (parts_branches p.text (items p.text d.0.rule) d.0.parts),
        (d.1.0, parts_fit d.0.rule (items p.text d.0.rule) d.0.parts (empty_cells p d.0.rule) d.1.1 (rule_owed d.0.rule) (rule_found d.0.rule)),
      )

  term_filled : IsSound p.text → (t : ℕ) → t < length p.text.terms → (sh : Shape) × ShapeFits p (Some (of_term t)) sh
  term_filled sound t lt =
      let w = some_word (term_of p.text t).regex (sound.built.automata.terms_bounded t lt).1 (sound.term_members t lt) in
      (leaf w.0, w.1)

  -- a slot without a child is owed
  owed_there : (ss : List ℕ) (cells : List (Option Common)) (s : ℕ) → AreOwed cells ss → slice_get cells s ≡ Some None → (k : ℕ) × (slice_get ss k ≡ Some s)
  owed_there [] cells s owes free = absurd (no_full cells (not_full cells s free) owes)
    where
      no_full : {A : Type 0} {b : Bool} (x : A) → b ≡ false → b ≡ true → ⊥
      no_full x e f = cc
  owed_there (r ∷ ss) cells s owes free = by (λ still. owed_there ss (set cells r (Some (word []))) s (owes.1 (word [])) still) (r == s) refl
    where
      differ : (r == s) ≡ false → s ≢ r
      differ e same = grind (arith, nat_tests)

      by : (slice_get (set cells r (Some (word []))) s ≡ Some None → (k : ℕ) × (slice_get ss k ≡ Some s)) → (b : Bool) → (r == s) ≡ b → (k : ℕ) × (slice_get (r ∷ ss) k ≡ Some s)
      by again true e = (0, ap (λ z. Some z) (eqb-true r s e))
      by again false e =
          let later = again (set_other cells r s (Some (word [])) (differ e) ∙ free) in
          (suc later.0, later.1)

  -- what an entry of a rule's kinds names is there
  AreNamedThere : ℕ × Kind → Type 0
  AreNamedThere e = (sh : Shape) × ShapeFits p (Some e.1) sh

  kinds_filled : IsSound p.text → (q d : ℕ) (is : List GItem) → ((n : ℕ) (item : GItem) → slice_get is n ≡ Some item → slice_get (items p.text q) (d + n) ≡ Some item) → AllOf AreNamedThere (kinds is)
  unfolding AreNamedThere
  kinds_filled sound q d [] at = tt
  kinds_filled sound q d (Fixed f ∷ is) at = kinds_filled sound q (suc d) is (λ n item e. subst (λ m. slice_get (items p.text q) m ≡ Some item) (next_place d n) (at (suc n) item e))
  kinds_filled sound q d (Skip k ∷ is) at = kinds_filled sound q (suc d) is (λ n item e. subst (λ m. slice_get (items p.text q) m ≡ Some item) (next_place d n) (at (suc n) item e))
  kinds_filled sound q d (Term t s ∷ is) at =
      (term_filled sound t (sound.built.range.terms q (d + 0) t s (at 0 (Term t s) refl)), kinds_filled sound q (suc d) is (λ n item e. subst (λ m. slice_get (items p.text q) m ≡ Some item) (next_place d n) (at (suc n) item e)))
  kinds_filled sound q d (Non m s ∷ is) at =
      (non_filled sound m (sound.built.range.nons q (d + 0) m s (at 0 (Non m s) refl)), kinds_filled sound q (suc d) is (λ n item e. subst (λ k. slice_get (items p.text q) k ≡ Some item) (next_place d n) (at (suc n) item e)))

  entry_at : (es xs : List (ℕ × Kind)) (k s : ℕ) → AllOf (λ e. lookup e.0 es ≡ Some e.1) xs → AllOf AreNamedThere xs → slice_get (keys xs) k ≡ Some s → (sh : Shape) × ShapeFits p (lookup s es) sh
  unfolding AreNamedThere
  entry_at es [] k s found filled is = absurd (none-some s is)
  entry_at es (x ∷ xs) zero s found filled is =
      let same : x.0 ≡ s = same_Some x.0 s is in
      (filled.0.0, subst (λ o. ShapeFits p o filled.0.0) (sym (ap (λ z. lookup z es) (sym same) ∙ found.0)) filled.0.1)
  entry_at es (x ∷ xs) (suc k) s found filled is = entry_at es xs k s found.1 filled.1 is

  slot_filled : IsSound p.text → (q s : ℕ) → s < slot_count p q → (sh : Shape) × ShapeFits p (kind_at p q s) sh
  slot_filled sound q s lt =
      let at = owed_there (slots (items p.text q)) (empty_cells p q) s (rule_owed q) (none_at (slot_count p q) s lt) in
      let all = kinds_filled sound q 0 (items p.text q) (λ n item e. subst (λ m. slice_get (items p.text q) m ≡ Some item) (none_before n) e) in
      entry_at (kinds (items p.text q)) (kinds (items p.text q)) at.0 s (rule_found q) all (ap (λ (z : List ℕ). slice_get z at.0) (sym (slots_are (items p.text q))) ∙ at.1)
    where
      none_before : (n : ℕ) → n ≡ 0 + n
      none_before n = omega arith

  pub sound_can_fill : IsSound p.text → CanFill p
  sound_can_fill sound = record {
    slots = λ q s rule lt. slot_filled sound q s lt;
    root = non_filled sound p.text.start sound.built.range.start;
  }
