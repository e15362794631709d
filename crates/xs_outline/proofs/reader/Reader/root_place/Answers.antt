use Rattle.std.proofs.Common.{◌∙◌, sym, ap}
use Rattle.std.specs.Cmp.Lexicographic.{bytes_decides}
use Rattle.xs_gram.specs.Grammar.{Grammar}
use Rattle.xs_outline.proofs.Placing.{root_found}
use Rattle.xs_outline.proofs.reader.Reader.root_place.Goals as goal

pub returns-then-eq-clause-place : goal.returns-then-eq-clause-place
returns-then-eq-clause-place c =
    root_found c.args.two.now c.args.self.now c.args.depth c.start.result c.args.name.now c.requires.root c.requires.open c.if-depth-eq0.true
    ((bytes_decides _ _).0 (sym c.eq.ensures ∙ c.if-eq.true)) (c.start.ensures ∙ ap (λ (g : Grammar). g.start) c.gram.ensures)
