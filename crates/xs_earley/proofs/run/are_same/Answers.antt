use Rattle.std.proofs.Common.{◌≡◌, ◌∙◌, ◌&&◌, nat_eq, ap}
use Rattle.std.specs.Bool.{Decides}
use Rattle.std.proofs.lemmas.Bool.{and_parts, and_from, eqb-true, eq-eqb}
use Rattle.std.proofs.lemmas.Slice.Eq.{slice_eq-Decides}
use Rattle.xs_chart.specs.declared.item.Item.{Item}
use Rattle.xs_chart.specs.Charted.{item_from}
use Rattle.xs_earley.proofs.run.are_same.Goals as goal

items_decide : (a b : Item) → Decides (nat_eq a.state b.state && nat_eq a.origin b.origin) (a ≡ b)
items_decide a b = (
  (λ t. let both = and_parts (nat_eq a.state b.state) (nat_eq a.origin b.origin) t in ap (λ n. item_from a.origin n) (eqb-true a.state b.state both.0) ∙ ap (λ n. item_from n b.state) (eqb-true a.origin b.origin both.1)),
  (λ e. and_from (nat_eq a.state b.state) (nat_eq a.origin b.origin) (eq-eqb a.state b.state (ap (λ (i : Item). i.state) e)) (eq-eqb a.origin b.origin (ap (λ (i : Item). i.origin) e))),
)

pub returns : goal.returns
returns c = slice_eq-Decides items_decide c.args.items.now c.args.others.now c.eq.result c.eq.ensures
