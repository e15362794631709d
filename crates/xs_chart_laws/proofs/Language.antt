-- The document is of the language exactly where a whole rule of the start is read over it.
use Rattle.std.proofs.Common.{ℕ, List, length, sym, ◌∙◌, arith, ◌↔◌}
use Rattle.std.specs.Prelude.{slice_range}
use Rattle.xs_gram.specs.declared.places.Place.{Place}
use Rattle.xs_gram.specs.Grammar.{Grammar, items}
use Rattle.xs_gram.specs.Derivations.{yield}
use Rattle.xs_gram.specs.Languages.{InLang}
use Rattle.xs_gram.specs.Chart.{begins, Stands}
use Rattle.xs_gram.specs.Places.{at_dot}
use Rattle.xs_chart_laws.specs.Reading.{Reads}
use Rattle.xs_chart_laws.specs.Closed.{AllStand, HasAllThatStand, IsWhole}
use Rattle.xs_chart_laws.proofs.Words.{Reads-same, Reads-from_slice}
use Rattle.xs_chart_laws.proofs.Spelling.{whole-Spells, Spells-whole}
use Rattle.xs_chart_laws.proofs.Standing.{stood}
use Rattle.xs_class.proofs.Lists.{slice_all}

pub Reads-all : (w : List ℕ) → Reads w 0 w (length w)
Reads-all w = Reads-same w 0 (slice_range w 0 (length w)) w (length w) (slice_all w) (Reads-from_slice w 0 (length w) (omega arith) (omega arith))

pub whole_of : (g : Grammar) (w : List ℕ) → InLang g w → IsWhole g w (λ j c i. Stands g w c i j)
whole_of g w (d, ((rule, f), e)) = (
  d.rule,
  rule,
  stood g w (at_dot d.rule (length (items g d.rule))) g.start 0 (length w) (yield d) rule begins
      (Reads-same w 0 w (yield d) (length w) (sym e) (Reads-all w)) (whole-Spells g d.rule d.parts f),
)

pub language_of : (g : Grammar) (w : List ℕ) → IsWhole g w (λ j c i. Stands g w c i j) → InLang g w
language_of g w (p, rule, st) =
    let s = Spells-whole g p (slice_range w 0 (length w)) st.5 in
    (record { rule = p; parts = s.0 }, ((rule, s.1), s.2 ∙ slice_all w))

-- in sets that have what stands, and of which each item stands
pub language_is_whole : (g : Grammar) (w : List ℕ) (has : ℕ → Place → ℕ → Type 0) → HasAllThatStand g w has → AllStand g w has → InLang g w ↔ IsWhole g w has
language_is_whole g w has complete all = (
  (λ h. let e = whole_of g w h in (e.0, e.1, complete (at_dot e.0 (length (items g e.0))) 0 (length w) e.2)),
  (λ e. language_of g w (e.0, e.1, all (at_dot e.0 (length (items g e.0))) 0 (length w) e.2)),
)
