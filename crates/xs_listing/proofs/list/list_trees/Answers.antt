use Rattle.std.proofs.Common.{◌≡◌, ◌+◌, ℕ, suc, min, ltb, length, List, sym, ◌∙◌, ap, subst, arith, rules, Some}
use Rattle.std.specs.Prelude.{slice_index_or}
use Rattle.std.proofs.lemmas.List.{get_or_read}
use Rattle.xs_forest_laws.specs.Number.{count_of, IsCounted}
use Rattle.xs_listing.proofs.Spelling.{listing_is}
use Rattle.xs_listing.proofs.list.list_trees.Goals as goal

pub returns : goal.returns
returns c =
    let g = c.args.g.now in
    let w = c.args.doc.now in
    let f = c.args.grown.now.forest in
    let root = c.args.grown.now.root in
    let cap = c.from-max.result + 1 in
    let counts = c.in_ok-counts.counts.items in
    let value = c.deref.ensures.value in
    let count = c.index-count.result.now in
    let there = c.requires.root_is.0 in
    let len = c.in_ok-counts.ensures.long in
    let same_max : c.from-max.result ≡ c.args.max = search rules in
    let long : length c.deref.result.now ≡ length f = ap length value ∙ len in
    let counted : IsCounted f cap c.deref.result.now = subst (λ (l : List ℕ). IsCounted f cap l) (sym value) (c.in_ok-counts.ensures.counted g w c.requires.right) in
    let at : count ≡ slice_index_or counts root 0 = get_or_read counts _ _ (omega arith) c.index-count.ensures 0 in
    let counts_is : count ≡ count_of c.deref.result.now (Some root) = at ∙ ap (λ (l : List ℕ). slice_index_or l root 0) (sym value) in
    let next : cap ≡ suc c.args.max = omega arith in
    let least : c.min-listed.result ≡ min c.args.max count = omega arith in
    listing_is _ root c.min-listed.result _ c.in_ok-trees.ensures (record { right = c.requires.right; long = long; counted = counted }) c.args.max c.requires.root_is next count counts_is least (ap (λ n. ltb n count) same_max)
