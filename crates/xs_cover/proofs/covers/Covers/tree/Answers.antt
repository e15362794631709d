use Rattle.std.proofs.Common.{◌≡◌, None, Some, subst, arith, ◌∙◌, get_or}
use Rattle.std.proofs.lemmas.Option.{get_or_from_slice_get}
use Rattle.xs_cover.specs.Kept.{sizes_of}
use Rattle.xs_cover.specs.Sizes.{IsLeast, IsLeastSize}
use Rattle.xs_cover.proofs.covers.Covers.tree.Goals as goal

pub returns-then-size-gt-LONGEST-clause-none : goal.returns-then-size-gt-LONGEST-clause-none
returns-then-size-gt-LONGEST-clause-none c = λ t shows.
    let size_is : get_or (sizes_of c.args.self.now) c.args.rule None ≡ Some c.in-Some.size = get_or_from_slice_get (sizes_of c.args.self.now) c.args.rule c.size.result None c.size.ensures ∙ c.in-Some.is in
    let least : IsLeast c.args.two.now.text c.args.two.now.xml c.args.rule c.in-Some.size = subst (λ o. IsLeastSize c.args.two.now.text c.args.two.now.xml c.args.rule o) size_is (c.requires.covers.sizes c.args.rule c.requires.rule) in
    omega (arith, c.if-size-gt-LONGEST.true, least.least t shows)

pub shown-requires-clause-short : goal.shown-requires-clause-short
shown-requires-clause-short c =
    let size_is : get_or (sizes_of c.args.self.now) c.args.rule None ≡ Some c.in-Some.size = get_or_from_slice_get (sizes_of c.args.self.now) c.args.rule c.size.result None c.size.ensures ∙ c.in-Some.is in
    let least : IsLeast c.args.two.now.text c.args.two.now.xml c.args.rule c.in-Some.size = subst (λ o. IsLeastSize c.args.two.now.text c.args.two.now.xml c.args.rule o) size_is (c.requires.covers.sizes c.args.rule c.requires.rule) in
    (c.in-Some.size, least, omega (arith, c.if-size-gt-LONGEST.false))
