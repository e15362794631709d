-- A forest with one row more.
use Rattle.std.proofs.Common.{◌≡◌, Bool, false, List, [], ◌∷◌, ◌++◌, length, Option, None, Some, is_some, true≢false, refl, sym, ◌∙◌, ap, subst, inl, inr}
use Rattle.std.specs.Borrow.{Bor}
use Rattle.std.proofs.lemmas.List.{map-append}
use Rattle.indexmap.specs.IndexMap.{IndexMap, get, insert_entry}
use Rattle.indexmap.proofs.CallerLemmas.{insert_entry-new}
use Rattle.xs_forest.specs.declared.row.Alt.{Alt}
use Rattle.xs_forest.specs.Rows.{Rows, rows_of, AreEarlier, AreBelow}
use Rattle.xs_class.proofs.Lists.{get_push}

-- its children stand before it too
pub below_more : {L : Type 0} (rows : Rows L) (label : L) (alts : List Alt) → AreBelow rows → AreEarlier alts (length rows) → AreBelow (rows ++ (label, alts) ∷ [])
below_more rows label alts below earlier at other others is =
    elim (get_push rows (label, alts) (other, others) at is) [
      | inl before ↦ below at other others before
      | inr last ↦ subst (λ n. AreEarlier others n) (sym last.0) (subst (λ a. AreEarlier a (length rows)) (ap (λ r. r.1) last.1) earlier)
    ]

absent : {X : Type 0} (o : Option X) → is_some o ≡ false → o ≡ None
absent None h = refl
absent (Some x) h = absurd (true≢false h)

-- a new label's entry is a new last row
pub rows_push : {L S : Type 0} (eq : L → L → Bool) (m : IndexMap L (Bor (List Alt)) S) (label : L) (alts : Bor (List Alt)) (new : List (L × Bor (List Alt))) → is_some (get eq m label) ≡ false → new ≡ insert_entry eq m.entries label alts → rows_of new ≡ rows_of m.entries ++ (label, alts.now) ∷ []
rows_push eq m label alts new none is =
    ap rows_of (is ∙ insert_entry-new eq m label alts (absent (get eq m label) none)) ∙ map-append _ m.entries ((label, alts) ∷ [])
