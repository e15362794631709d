-- The label of a class reads its symbols.
use Rattle.std.proofs.Common.{◌≡◌, ℕ, ◌+◌, ◌<◌, List, [], ◌∷◌, ◌++◌, length, get_or, slice_get, None, Some, inl, inr, sym, ap, subst, ◌∙◌, arith}
use Rattle.std.proofs.Math.Seq.{get_or-append_seam}
use Rattle.std.proofs.lemmas.List.{get_or_append_left}
use Rattle.std.proofs.lemmas.Option.{slice_get_within}
use Rattle.std.specs.Prelude.{IfSome}
use Rattle.std.specs.declared.option.Option.{Option}
use Rattle.std.proofs.lemmas.Bool.{cases_eq}
use Rattle.xs_regex.specs.declared.position.Position.{Position}
use Rattle.xs_regex.specs.Automaton.{HasAt}
use Rattle.xs_class.specs.Classes.{Has}
use Rattle.xs_loose.proofs.Pushing.{element_is}
use Rattle.xs_coarse.specs.Coarse.{Table}
use Rattle.xs_coarse.specs.Labels.{IsClassLabel}
use Rattle.xs_coarse_net.specs.Going.{LabelReads}

pub class_reads : (t : Table) (class : List (ℕ × ℕ)) (label s : ℕ) → IsClassLabel t.classes class label → Has class s → LabelReads t label s
class_reads t class label s is has = record {
  class = is.number;
  below = slice_get_within t.classes is.number class is.there;
  is = is.is;
  has = subst (λ (c : List (ℕ × ℕ)). Has c s) (element_is t.classes is.number class [] is.there) has;
}

pub symbol_reads : (t : Table) (s : ℕ) (o : Option ℕ) → IfSome o (IsClassLabel t.classes ((s, s) ∷ [])) → IfSome o (λ label. LabelReads t label s)
symbol_reads t s None h = tt
symbol_reads t s (Some label) h = class_reads t ((s, s) ∷ []) label s h (inl (omega arith, omega arith))

-- one more position
pub positions_more : (t : Table) (p : Position) (labels : List ℕ) (j label : ℕ) (class : List (ℕ × ℕ)) → length labels ≡ j → slice_get p.classes j ≡ Some class → IsClassLabel t.classes class label → ((k s : ℕ) → k < j → HasAt p k s → LabelReads t (get_or labels k 0) s) → (k s : ℕ) → k < j + 1 → HasAt p k s → LabelReads t (get_or (labels ++ label ∷ []) k 0) s
positions_more t p labels j label class long at is was k s low has = elim (cases_eq k j) [
  | inl e ↦
      let here : get_or (labels ++ label ∷ []) k 0 ≡ label = ap (λ (n : ℕ). get_or (labels ++ label ∷ []) n 0) (e ∙ sym long) ∙ get_or-append_seam labels label [] 0 in
      let symbol : Has class s = rw at at (subst (λ (n : ℕ). HasAt p n s) e has) in
      subst (λ (l : ℕ). LabelReads t l s) (sym here) (class_reads t class label s is symbol)
  | inr ne ↦ subst (λ (l : ℕ). LabelReads t l s) (sym (get_or_append_left labels (label ∷ []) 0 k (omega (arith, low, long)))) (was k s (omega (arith, low)) has)
]
