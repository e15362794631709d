use Rattle.std.proofs.Common.{[], sym, refl, append-nil}
use Rattle.std.proofs.lemmas.Result.{IfOk-weaker}
use Rattle.xs_gram.specs.Fences.{spread}
use Rattle.xs_loose.specs.Parts.{IsStretch}
use Rattle.xs_searches.proofs.space.SearchSpace.rule_net.Goals as goal

pub returns : goal.returns
returns c =
    let g = c.args.self.now.site.g.now in
    let p = c.args.rule in
    let space = c.requires.space in
    let stretch : IsStretch g p 0 (spread g p) = record { rule = c.requires.rule; before = []; after = []; split = sym (append-nil (spread g p)); place = refl; level = space.site.built.proper.level p } in
    IfOk-weaker c.rule_net.result _ _ (λ n is. record {
      tame = c.nets_are_tame.ensures g space.site.built c.args.self.now.nest space.nest p 0 (spread g p) n stretch is;
      words = λ w. c.nets_accept_loose.ensures g space.site.built c.args.self.now.nest space.nest p 0 (spread g p) n stretch is w;
    }) c.rule_net.ensures
