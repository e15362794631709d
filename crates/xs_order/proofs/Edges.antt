-- Graphs of the nonterminals that are made rule by rule.
use Rattle.std.proofs.Common.{◌≡◌, ◌≢◌, ℕ, ◌+◌, ◌<◌, List, [], ◌∷◌, ◌++◌, length, get_or, set, sym, ap, ◌∙◌, inl, inr, arith, length-set, get_or-set_same, get_or-set_other}
use Rattle.std.specs.List.{Contains}
use Rattle.std.proofs.lemmas.Bool.{cases_lt, cases_eq}
use Rattle.std.proofs.lemmas.List.{get_or_past, get_or_push, get_or_append_left, length_push}
use Rattle.std.proofs.lemmas.List.Elements.{Contains-get_or, Contains-append_left, Contains-append_right, Contains-append_cases}
use Rattle.xs_class.proofs.Lists.{nothing_in}
use Rattle.xs_graph.specs.Graphs.{IsGraph, targets_of}
use Rattle.xs_gram.specs.Grammar.{Grammar, rule_of}
use Rattle.xs_order.specs.Graphs.{AreByRule, IsEdgeOf, IsGraphTo}

-- a list for one more rule
pub lists_more : (R : ℕ → List ℕ → Type 0) (k : ℕ) (lists : List (List ℕ)) (list : List ℕ) → R k list → AreByRule R k lists → AreByRule R (k + 1) (lists ++ list ∷ [])
lists_more R k lists list here known = record {
  counted = omega (arith, length_push lists list, known.counted);
  each = λ p l. elim (cases_lt p k) [
    | inl before ↦ rw (get_or_append_left lists (list ∷ []) [] p (omega (arith, known.counted))) (known.each p before)
    | inr after ↦
        let same : p ≡ k = omega arith in
        rw (same, get_or_push lists list [] k known.counted) here
  ];
}

pub graph_none : (g : Grammar) (targets rows : List (List ℕ)) → AreByRule (λ _ row. row ≡ []) g.nons rows → IsGraphTo g targets 0 rows
graph_none g targets rows blank = record {
  counted = blank.counted;
  there = λ n m e. absurd (omega (arith, e.before));
  only = λ n m h. elim (cases_lt n g.nons) [
    | inl low ↦ absurd (nothing_in (get_or rows n []) m (blank.each n low) h)
    | inr high ↦ absurd (nothing_in (get_or rows n []) m (get_or_past rows n [] (omega (arith, blank.counted))) h)
  ];
}

-- the targets of one more rule are added to its nonterminal's row
pub graph_more : (g : Grammar) (targets rows new : List (List ℕ)) (k non : ℕ) (row list : List ℕ) → non ≡ (rule_of g k).non → non < length rows → row ≡ get_or rows non [] → list ≡ get_or targets k [] → new ≡ set rows non (row ++ list) → IsGraphTo g targets k rows → IsGraphTo g targets (k + 1) new
graph_more g targets rows new k non row list is low r t e known = record {
  counted = ap length e ∙ length-set rows non (row ++ list) ∙ known.counted;
  there = λ n m edge. elim (cases_lt edge.rule k) [
    | inl before ↦ kept n m (known.there n m (record { rule = edge.rule; before = before; non = edge.non; target = edge.target }))
    | inr after ↦
        let here : edge.rule ≡ k = omega (arith, edge.before) in
        let node : n ≡ non = sym edge.non ∙ ap (λ (p : ℕ). (rule_of g p).non) here ∙ sym is in
        rw (node, same) (Contains-append_right row list m (rw t (rw here at edge.target)))
  ];
  only = λ n m h. elim (cases_eq n non) [
    | inl node ↦ elim (Contains-append_cases row list m (rw (node, same) at h)) [
      | inl before ↦ longer n m (known.only n m (rw (node, ← r) before))
      | inr now ↦ record { rule = k; before = omega arith; non = sym is ∙ sym node; target = rw (← t) now }
    ]
    | inr other ↦ longer n m (known.only n m (rw (others n other) at h))
  ];
}
  where
    same : get_or new non [] ≡ row ++ list
    same = rw e (get_or-set_same rows non (row ++ list) [] low)

    others : (n : ℕ) → n ≢ non → get_or new n [] ≡ get_or rows n []
    others n ne = rw e (get_or-set_other rows non n (row ++ list) [] ne)

    kept : (n m : ℕ) → Contains (get_or rows n []) m → Contains (get_or new n []) m
    kept n m h = elim (cases_eq n non) [
      | inl node ↦ rw (node, same, r) (Contains-append_left (get_or rows non []) list m (rw node at h))
      | inr other ↦ rw (others n other) h
    ]

    longer : (n m : ℕ) → IsEdgeOf g targets k n m → IsEdgeOf g targets (k + 1) n m
    longer n m edge = record { rule = edge.rule; before = omega (arith, edge.before); non = edge.non; target = edge.target }

-- where each target is a nonterminal, the rows are a graph
pub is_graph : (g : Grammar) (targets graph : List (List ℕ)) → ((p m : ℕ) → p < length g.rules → Contains (get_or targets p []) m → m < g.nons) → IsGraphTo g targets (length g.rules) graph → IsGraph graph
is_graph g targets graph low known a k d l =
    let edge = known.only a (get_or (targets_of graph a) k d) (Contains-get_or (targets_of graph a) k d l) in
    omega (arith, low edge.rule (get_or (targets_of graph a) k d) edge.before edge.target, known.counted)
