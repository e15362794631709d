use Rattle.std.proofs.Common.{◌-◌, ◌^◌, ℕ, List, length, get_or, ◌∙◌, ap, arith}
use Rattle.std.proofs.lemmas.List.{get_or-replicate, length-replicate}
use Rattle.xs_gram.specs.Places.{all_places}
use Rattle.xs_earley.proofs.Maskings.{masks_full}
use Rattle.xs_earley.proofs.masks.masks_of.Goals as goal

pub returns-in_ok-masks-in-None : goal.returns-in_ok-masks-in-None
returns-in_ok-masks-in-None c =
    let count = c.places.result in
    let places = c.places.ensures in
    let same = c.in_ok-masks-in-None.ensures.items_if_clones_equal (λ y e. e) in
    masks_full c.args.g.now c.args.facts.now (length (all_places c.args.g.now)) c.in_ok-masks-in-None.masks.items (ap (λ (l : List ℕ). length l) same ∙ length-replicate count (2 ^ 64 - 1) ∙ places)
    (λ k lt. ap (λ (l : List ℕ). get_or l k 0) same ∙ get_or-replicate count k (2 ^ 64 - 1) 0 (omega (arith, lt, places)))
