use Rattle.std.proofs.Common.{◌≡◌, ◌+◌, ◌∷◌, [], ◌++◌, ℕ, List, take, sym, subst}
use Rattle.std.specs.Prelude.{slice_index_or}
use Rattle.std.proofs.lemmas.List.{take_all, get_or_default}
use Rattle.xs_class.proofs.Lists.{take_next}
use Rattle.xs_forest.specs.declared.row.Alt.{Alt}
use Rattle.xs_grow.specs.Making.{IsMade, AreMade, Misses}
use Rattle.xs_grow.proofs.Growing.{misses_then, misses_none, none_made, made_more}
use Rattle.xs_grow.proofs.rows.alternatives.Goals as goal

pub numbers-init : goal.numbers-init
numbers-init c =
    let s = c.args.source.now in
    let f = c.args.forest.now in
    misses_none s.g.now s.doc.now f (AreMade s.g.now f c.args.key [] c.clear.new.self.items) c.args.missing.now.items (subst (λ (z : List Alt). AreMade s.g.now f c.args.key [] z) (sym c.clear.ensures.items) (none_made s.g.now f c.args.key))

pub numbers-preserved : goal.numbers-preserved
numbers-preserved c =
    let s = c.args.source.now in
    let f = c.args.forest.now in
    let k = c.args.key in
    let t = c.numbers.number-index in
    let all = c.args.numbers.now in
    let n : ℕ = slice_index_or all t 0 in
    let more : take (t + 1) all ≡ take t all ++ n ∷ [] = take_next all t n c.numbers-test.true (get_or_default all t 0 n c.numbers-test.true) in
    misses_then s.g.now s.doc.now f (AreMade s.g.now f k (take t all) c.numbers.alts.items) (IsMade s.g.now f k.what k.start k.end n c.in_ok-alt.alt) (AreMade s.g.now f k (take (t + 1) all) c.push.new.self.items) c.args.missing.now.items c.numbers.missing.items c.alternative.new.missing.items c.numbers.invariant c.in_ok-alt.ensures (λ a b. made_more s.g.now f k (take t all) (take (t + 1) all) c.numbers.alts.items c.push.new.self.items n c.in_ok-alt.alt more c.in_ok-push.ensures.items b a)

pub returns : goal.returns
returns c =
    let s = c.args.source.now in
    let all = c.args.numbers.now in
    subst (λ (z : List ℕ). Misses s.g.now s.doc.now c.args.forest.now (AreMade s.g.now c.args.forest.now c.args.key z c.numbers.alts.items) c.args.missing.now.items c.numbers.missing.items) (take_all c.numbers.number-index all c.numbers-test.false) c.numbers.invariant
