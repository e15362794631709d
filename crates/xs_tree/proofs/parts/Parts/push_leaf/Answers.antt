use Rattle.std.proofs.Common.{◌++◌, ◌∷◌, [], List, ◌∙◌, ap, arith}
use Rattle.xs_tree.specs.declared.parts.Row.{Row}
use Rattle.xs_tree.specs.declared.parts.Row.TheVariants.{Word}
use Rattle.xs_tree.specs.Flat.{Leaf}
use Rattle.xs_tree.proofs.Rows.{leaf_pushed}
use Rattle.xs_tree.proofs.parts.Parts.push_leaf.Goals as goal

pub returns-clause-ok : goal.returns-clause-ok
returns-clause-ok c =
    let pushed = c.push_reserved.ensures.items ∙ ap (λ (l : List Row). l ++ Word c.len-begin.result c.len-end.result ∷ []) c.reserve.ensures.items in
    leaf_pushed c.self.inside.kids.items c.self.inside.symbols.items c.append.new.list.items c.args.word.now c.self.inside.rows.items c.push_reserved.new.self.items c.len-begin.result c.len-end.result c.self.invariant c.in_ok-append.ensures.ok (omega (arith, c.len-begin.ensures)) (omega (arith, c.len-end.ensures)) pushed
    ∙ ap (λ parts. parts ++ Leaf c.args.word.now ∷ []) c.self.view_is
