-- One more item of a node, and one more node of a table.
use Rattle.std.proofs.Common.{◌≡◌, ◌∙◌, ℕ, suc, ◌+◌, ◌-◌, ◌<◌, ◌≤◌, List, ◌∷◌, length, drop, get_or, Some, sym, ap, subst, arith, add-one, drop-cons, inl, inr}
use Rattle.std.proofs.lemmas.Bool.{cases_eq}
use Rattle.std.proofs.lemmas.Option.{slice_get-get_or}
use Rattle.std.specs.Prelude.{slice_get}
use Rattle.xs_gram.specs.declared.parts.GItem.{GItem}
use Rattle.xs_gram.specs.Grammar.{Grammar}
use Rattle.xs_parse_table.specs.declared.table.Node.{Node}
use Rattle.xs_gram.specs.Derivations.{Derivation}
use Rattle.xs_gram.specs.Languages.{Derives}
use Rattle.xs_parse_table.specs.declared.table.ParseTable.{ParseTable}
use Rattle.xs_parse_table.specs.Nodes.{ItemEnds, ItemsEnd, IsNode, IsRoot}
use Rattle.xs_parse_table.specs.Tables.{IsTreeOf}
use Rattle.xs_parse_table.proofs.Trees.{table_derives}

-- the items from number n on, where the item there and those after it end
pub one_more : (g : Grammar) (doc : List ℕ) (nodes : List Node) (parts : List ℕ) (v k n : ℕ) (is : List GItem) (item : GItem) (at part to end : ℕ) → n < length is → item ≡ get_or is n item → slice_get parts (k + n) ≡ Some part → ItemEnds g doc nodes v item at part to → ItemsEnd g doc nodes parts v (k + (n + 1)) (drop (n + 1) is) to end → ItemsEnd g doc nodes parts v (k + n) (drop n is) at end
one_more g doc nodes parts v k n is item at part to end l i p h after =
    let e : drop n is ≡ item ∷ drop (n + 1) is = drop-cons is n item l ∙ there in
    let one : suc (k + n) ≡ k + (n + 1) = omega arith in
    rw e (part, to, p, h, rw one after)
  where
    there : get_or is n item ∷ drop (suc n) is ≡ item ∷ drop (n + 1) is
    there = rw add-one (ap (λ (x : GItem). x ∷ drop (suc n) is) (sym i))

pub next_node : (P : ℕ → Node → Type 0) (nodes : List Node) (v : ℕ) (node : Node) → slice_get nodes v ≡ Some node → P v node → ((u : ℕ) (n : Node) → u < v → slice_get nodes u ≡ Some n → P u n) → (u : ℕ) (n : Node) → u < v + 1 → slice_get nodes u ≡ Some n → P u n
next_node P nodes v node there here before u n l e = elim (cases_eq u v) [
  | inl same ↦ same_node same
  | inr other ↦ before u n (omega arith) e
]
  where
    same_node : u ≡ v → P u n
    same_node same =
        let is : node ≡ n = of_some node n (sym there ∙ ap (λ k. slice_get nodes k) (sym same) ∙ e) in
        subst (λ k. P k n) (sym same) (subst (λ m. P v m) is here)
      where
        of_some : (x y : Node) → Some x ≡ Some y → x ≡ y
        of_some x y e = cc

-- the nodes up to one more
pub right_next : (g : Grammar) (doc : List ℕ) (nodes xs : List Node) (parts : List ℕ) (v number : ℕ) (d : Node) → xs ≡ nodes → number ≡ v → v < length xs → IsNode g doc nodes parts number (get_or xs v d) → ((u : ℕ) (n : Node) → u < v → slice_get nodes u ≡ Some n → IsNode g doc nodes parts u n) → (u : ℕ) (n : Node) → u < v + 1 → slice_get nodes u ≡ Some n → IsNode g doc nodes parts u n
right_next g doc nodes xs parts v number d e f l here before =
    let there : slice_get nodes v ≡ Some (get_or xs v d) = subst (λ (ys : List Node). slice_get ys v ≡ Some (get_or xs v d)) e (slice_get-get_or xs v d l) in
    next_node (λ u n. IsNode g doc nodes parts u n) nodes v (get_or xs v d) there (subst (λ k. IsNode g doc nodes parts k (get_or xs v d)) f here) before

-- the whole table, where all nodes are right and the last is a root
pub right_table : (g : Grammar) (doc : List ℕ) (table : ParseTable) (xs : List Node) (v : ℕ) (d : Node) → xs ≡ table.nodes.items → 0 < length xs → IsRoot g doc (get_or xs (length xs - 1) d) → length xs ≤ v → ((u : ℕ) (n : Node) → u < v → slice_get table.nodes.items u ≡ Some n → IsNode g doc table.nodes.items table.parts.items u n) → (t : Derivation) × IsTreeOf table doc t × Derives g doc t
right_table g doc table xs v d e some root l right =
    let count : length xs ≡ length table.nodes.items = ap (λ (ys : List Node). length ys) e in
    let there : slice_get table.nodes.items (length xs - 1) ≡ Some (get_or xs (length xs - 1) d) =
    subst (λ (ys : List Node). slice_get ys (length xs - 1) ≡ Some (get_or xs (length xs - 1) d)) e (slice_get-get_or xs (length xs - 1) d (omega arith)) in
    table_derives g doc table (length xs - 1) (get_or xs (length xs - 1) d) (λ u n h at. right u n (omega arith) at) (omega arith) there root.rule root.from root.to
