use Rattle.std.proofs.Common.{◌≡◌, ℕ, ◌<◌, List, [], ◌∷◌, ◌++◌, length, take, sym, ap, ◌∙◌, arith, append_assoc}
use Rattle.xs_gram.specs.Fences.{spread}
use Rattle.xs_coarse.specs.Labels.{lefts_of}
use Rattle.xs_coarse.proofs.Labelling.{lefts_more, lefts_same}
use Rattle.xs_coarse.proofs.lefts.push_lefts.Goals as goal
use Rattle.xs_coarse.proofs.lefts.push_lefts.Goals.{in-Some+in_ok-push, in_default}

pub items-preserved : goal.items-preserved
items-preserved c =
    let g = c.args.g.now in
    let rule = c.args.rule in
    let k = c.items.place in
    let old = c.args.lefts.now.items in
    let before = lefts_of g.fences (take k (spread g rule)) in
    let low : k < length (spread g rule) = omega (arith, c.items-test.true, ap length c.spread.ensures.items) in
    elim c.match-at.branch [
      | in-Some+in_ok-push w ↦
          let here : c.match-at.lefts.items ≡ c.items.lefts.items ++ w.number.result ∷ [] = cc (w.lefts-is, w.in_ok-push.ensures.items) in
          here
          ∙ ap (λ (xs : List ℕ). xs ++ w.number.result ∷ []) c.items.invariant
          ∙ append_assoc old before (w.number.result ∷ [])
          ∙ ap (λ (xs : List ℕ). old ++ xs) (ap (λ (l : ℕ). before ++ l ∷ []) w.number.ensures ∙ sym (lefts_more g rule k w.in-Some.fenced w.in-Some.ensures.some low))
      | in_default w ↦
          let here : c.match-at.lefts.items ≡ c.items.lefts.items = cc (w.lefts-is) in
          here ∙ c.items.invariant ∙ ap (λ (xs : List ℕ). old ++ xs) (sym (lefts_same g.fences (spread g rule) k low (c.at.ensures.none w.in_default.is)))
    ]
