use Rattle.std.proofs.Common.{List, sym, subst}
use Rattle.xs_gram.specs.declared.parts.GItem.{GItem}
use Rattle.xs_loose.specs.Parts.{AreLight}
use Rattle.xs_searches.proofs.Lightness.{rule_light}
use Rattle.xs_searches.proofs.nets.Site.rule_net.Goals as goal

pub net-requires-clause-light : goal.net-requires-clause-light
net-requires-clause-light c =
    let g = c.args.self.now.g.now in
    subst (λ (is : List GItem). AreLight g is) (sym c.whole-part.ensures.items) (rule_light g c.requires.site.built c.requires.site.light c.args.rule c.requires.rule)
