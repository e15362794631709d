use Rattle.std.proofs.Common.{Some, IfNone, IfSome, subst, ap, ◌∙◌}
use Rattle.xs_gram.specs.Grammar.{Grammar}
use Rattle.xs_gram.specs.Common.{print}
use Rattle.xs_tree.specs.Flat.{common_of}
use Rattle.xs_cover.specs.Sizes.{IsLeast, IsLeastTree, IsTooLong}
use Rattle.xs_top.proofs.Showing.{size_least, least_long, least_size}
use Rattle.xs_top.proofs.covered.shown_of.Goals as goal

pub returns-in_default-2 : goal.returns-in_default-2
returns-in_default-2 c =
    let g = c.args.two.now.text in
    let h = c.args.two.now.xml in
    let least : IsLeast g h c.args.rule c.in-Some.size = size_least c.args.two.now c.args.covers.now c.args.rule (Some c.in-Some.size) c.requires.covers c.requires.rule (c.size.ensures ∙ ap (λ o. Some o) c.in-Some.is) in
    (least, least_long g h c.args.rule c.in-Some.size least (subst (λ o. IfNone o (IsTooLong g h c.args.rule)) c.in_default-2.is c.in_ok-tree.ensures.none))

pub returns : goal.returns
returns c =
    let g = c.args.two.now.text in
    let h = c.args.two.now.xml in
    let least : IsLeast g h c.args.rule c.in-Some.size = size_least c.args.two.now c.args.covers.now c.args.rule (Some c.in-Some.size) c.requires.covers c.requires.rule (c.size.ensures ∙ ap (λ o. Some o) c.in-Some.is) in
    let tree : IsLeastTree g h c.args.rule (common_of c.in-Some-2.tree) = subst (λ o. IfSome o (λ t. IsLeastTree g h c.args.rule (common_of t))) c.in-Some-2.is c.in_ok-tree.ensures.some in
    record {
      tree = common_of c.in-Some-2.tree;
      least = tree;
      size_is = least_size g h c.args.rule c.in-Some.size (common_of c.in-Some-2.tree) least tree;
      text_is = c.in_ok-text.ensures ∙ ap (λ (z : Grammar). print z (common_of c.in-Some-2.tree)) c.gram.ensures;
      xml_is = c.in_ok-xml.ensures ∙ ap (λ (z : Grammar). print z (common_of c.in-Some-2.tree)) c.gram-2.ensures;
    }
