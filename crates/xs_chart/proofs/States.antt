-- Items of states, all with one origin.
use Rattle.std.proofs.Common.{◌≡◌, ℕ, ◌<◌, List, ◌++◌, length, get_or, take, inl, inr, sym, ◌∙◌, ap, subst, arith}
use Rattle.std.specs.Prelude.{Contains}
use Rattle.std.proofs.lemmas.List.{length-map, get_or-map}
use Rattle.std.proofs.lemmas.List.Elements.{Contains-append_cases, Contains-get_or}
use Rattle.xs_chart.specs.declared.item.Item.{Item}
use Rattle.xs_chart.specs.Charted.{item_from, items_from}
use Rattle.xs_chart.specs.Different.{AreDifferent}
use Rattle.xs_chart.proofs.Different.{not_before}

-- each is the item of one of them
pub state_of : (origin : ℕ) (states : List ℕ) (item : Item) → Contains (items_from origin states) item → (state : ℕ) × Contains states state × (item ≡ item_from origin state)
state_of origin states item h =
    let lt : h.0 < length states = omega (arith, h.1, length-map states (item_from origin)) in
    (get_or states h.0 0, Contains-get_or states h.0 0 lt, sym h.2 ∙ get_or-map (item_from origin) states h.0 0 item lt)

-- and each of them has its item
pub item_of : (origin : ℕ) (states : List ℕ) (state : ℕ) → Contains states state → Contains (items_from origin states) (item_from origin state)
item_of origin states state h = (h.0, omega (arith, h.1, length-map states (item_from origin)), get_or-map (item_from origin) states h.0 state (item_from origin state) h.1 ∙ ap (item_from origin) h.2)

-- the item of the next state is not among other items and those of the states before it
pub next_absent : (items : List Item) (origin : ℕ) (states : List ℕ) (n d : ℕ) → n < length states → AreDifferent states → ((state : ℕ) → Contains states state → Contains items (item_from origin state) → ⊥)
    → Contains (items ++ items_from origin (take n states)) (item_from origin (get_or states n d)) → ⊥
next_absent items origin states n d lt different absent h = elim (Contains-append_cases items (items_from origin (take n states)) (item_from origin (get_or states n d)) h) [
  | inl old ↦ absent (get_or states n d) (Contains-get_or states n d lt) old
  | inr more ↦
      let x = state_of origin (take n states) (item_from origin (get_or states n d)) more in
      let same : get_or states n d ≡ x.0 = ap (λ (y : Item). y.state) x.2 in
      not_before states n d lt different (subst (λ s. Contains (take n states) s) (sym same) x.1)
]
