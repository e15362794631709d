-- Whether a whole rule of the start is read over the document.
use Rattle.std.proofs.Common.{◌↔◌, ℕ, List, length}
use Rattle.std.specs.Prelude.{Contains}
use Rattle.xs_chart.specs.declared.item.Item.{Item}
use Rattle.xs_chart.specs.Charted.{item_from}
use Rattle.xs_gram.specs.Grammar.{Grammar}
use Rattle.xs_gram.specs.Languages.{InLang}
use Rattle.xs_chart_laws.specs.Charts.{set_at, IsChartOf}
use Rattle.xs_chart_laws.proofs.Charts.{chart_language}
use Rattle.xs_earley.specs.Starts.{AreEnds}

-- one is, exactly where its end is in the last set, from the front
pub whole_iff : (g : Grammar) (w : List ℕ) (sets : List (List Item)) (ends : List ℕ) → IsChartOf g w sets → AreEnds g (length g.rules) ends → ((state : ℕ) × Contains ends state × Contains (set_at sets (length w)) (item_from 0 state)) ↔ InLang g w
whole_iff g w sets ends chart are = (
  λ h. let e = ((are h.0).0 h.1).0 in (chart_language g w sets chart).1 (e.0, e.1, (h.0, e.2, h.2)),
  λ h. let e = (chart_language g w sets chart).0 h in let k = e.2 in (k.0, (are k.0).1 ((e.0, e.1, k.1), e.1.0), k.2),
)
