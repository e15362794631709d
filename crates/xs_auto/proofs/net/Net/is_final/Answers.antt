use Rattle.std.proofs.Common.{◌∙◌, false, arith}
use Rattle.std.proofs.lemmas.List.{get_or_read}
use Rattle.xs_auto.proofs.LayoutLemmas.{laid_states, laid_final}
use Rattle.xs_auto.proofs.net.Net.is_final.Goals as goal

pub index-requires : goal.index-requires
index-requires c = let same = laid_states c.self.inside.start c.self.inside.finals.items c.self.inside.classes.items c.self.inside.edges c.self.inside.moves c.self.inside.calls c.args.self.now c.self.view_is in omega (arith, same, c.requires)

pub returns : goal.returns
returns c =
    let same = laid_states c.self.inside.start c.self.inside.finals.items c.self.inside.classes.items c.self.inside.edges c.self.inside.moves c.self.inside.calls c.args.self.now c.self.view_is in
    get_or_read c.self.inside.finals.items c.args.a c.index.result.now (omega (arith, same, c.requires)) c.index.ensures false ∙ laid_final c.self.inside.start c.self.inside.finals.items c.self.inside.classes.items c.self.inside.edges c.self.inside.moves c.self.inside.calls c.args.self.now c.args.a c.self.view_is
