-- How far a document is read from an item, and the longest viable prefix by it.
use Rattle.std.proofs.Common.{◌≡◌, ℕ, ◌+◌, ◌≤◌, List, ◌++◌, length, take, drop, arith, inl, inr, Some, None, length-append, take-append-drop}
use Rattle.std.proofs.lemmas.List.{take-append-le}
use Rattle.std.proofs.Math.Seq.{take-length}
use Rattle.std.specs.declared.option.Option.{Option}
use Rattle.std.specs.Prelude.{slice_get}
use Rattle.xs_chart.specs.declared.item.Item.{Item}
use Rattle.xs_gram.specs.declared.parts.GItem.{GItem}
use Rattle.xs_gram.specs.declared.parts.GItem.TheVariants.{Fixed}
use Rattle.xs_gram.specs.declared.places.Place.{Place}
use Rattle.xs_gram.specs.Grammar.{Grammar, items, ItemAt}
use Rattle.xs_gram.specs.Sound.{IsSound}
use Rattle.xs_gram.specs.Languages.{IsViable}
use Rattle.xs_chart_laws.specs.Reading.{Reads}
use Rattle.xs_chart_laws.specs.Closed.{ReadsTo, IsReached}
use Rattle.xs_chart_laws.specs.Charts.{HasPlace, IsChartOf}
use Rattle.xs_chart_laws.proofs.Words.{Reads-is}
use Rattle.xs_chart_laws.proofs.Fronts.{reached_within, start_reached}
use Rattle.xs_chart_laws.proofs.Charts.{chart_all_stand, chart_has_all, chart_viable}

same_fixed : (o : Option GItem) (f h : List ℕ) → o ≡ Some (Fixed f) → o ≡ Some (Fixed h) → f ≡ h
same_fixed o f h a b = cc

-- by a front of the fixed word
pub reads_word : (g : Grammar) (w : List ℕ) (j : ℕ) (c : Place) (f : List ℕ) (n : ℕ) → c.inside ≡ None → ItemAt g c.rule c.dot (Fixed f) → Reads w j (take n f) (j + n) → ReadsTo g w j c (j + n)
reads_word g w j c f n none at r = inr (take n f, drop n f, none, rw take-append-drop at, r)

front-take : (u y : List ℕ) → take (length u) (u ++ y) ≡ u
front-take u y = let le : length u ≤ length u = omega arith in rw take-append-le (take-length u)

-- no further than by the longest front that is read
pub reads_most : (g : Grammar) (w : List ℕ) (j : ℕ) (c : Place) (f : List ℕ) (best : ℕ) → ItemAt g c.rule c.dot (Fixed f) → ((n : ℕ) → n ≤ length f → Reads w j (take n f) (j + n) → n ≤ best) → (k : ℕ) → ReadsTo g w j c k → k ≤ j + best
reads_most g w j c f best at most k (inl e) = omega (arith, e)
reads_most g w j c f best at most k (inr (u, y, none, there, r)) =
    let e : f ≡ u ++ y = same_fixed (slice_get (items g c.rule) c.dot) f (u ++ y) at there in
    let k-is = Reads-is w j u k r in
    let le : length u ≤ length f = rw (e, length-append) (omega arith) in
    let front : take (length u) f ≡ u = rw (e, front-take u y) in
    let here = most (length u) le (rw (front, ← k-is) r) in
    omega arith

-- no further than its set, where the place stands before no fixed word
pub reads_none : (g : Grammar) (w : List ℕ) (j : ℕ) (c : Place) → ((f : List ℕ) → c.inside ≡ None → ItemAt g c.rule c.dot (Fixed f) → ⊥) → (k : ℕ) → ReadsTo g w j c k → k ≡ j
reads_none g w j c never k (inl e) = e
reads_none g w j c never k (inr (u, y, none, there, r)) = absurd (never (u ++ y) none there)

-- the greatest place that is reached is the length of the longest viable prefix
pub reached_is_viable : (g : Grammar) (w : List ℕ) (sets : List (List Item)) → IsSound g → IsChartOf g w sets → (best : ℕ) → IsReached g w (HasPlace g sets) best → ((m : ℕ) → IsReached g w (HasPlace g sets) m → m ≤ best) → IsViable g w best
reached_is_viable g w sets sound chart best reached most =
    (chart_viable g w sets sound chart best).1 (reached_within g w (HasPlace g sets) (chart_all_stand g w sets chart) best reached, reached, (λ m le r. most m r))

-- the front of the document is reached in its chart
pub chart_start_reached : (g : Grammar) (w : List ℕ) (sets : List (List Item)) → IsSound g → IsChartOf g w sets → IsReached g w (HasPlace g sets) 0
chart_start_reached g w sets sound chart = start_reached g w (HasPlace g sets) sound (chart_has_all g w sets chart)
