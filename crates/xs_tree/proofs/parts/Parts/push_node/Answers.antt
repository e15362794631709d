use Rattle.std.proofs.Common.{◌++◌, ◌∷◌, [], List, ◌∙◌, ap, arith}
use Rattle.xs_tree.specs.declared.parts.Row.{Row}
use Rattle.xs_tree.specs.declared.parts.Row.TheVariants.{Made}
use Rattle.xs_tree.specs.Flat.{Node}
use Rattle.xs_tree.proofs.Rows.{node_pushed}
use Rattle.xs_tree.proofs.parts.Parts.push_node.Goals as goal

pub returns-clause-ok : goal.returns-clause-ok
returns-clause-ok c =
    let pushed = c.push_reserved.ensures.items ∙ ap (λ (l : List Row). l ++ Made c.args.production c.len-begin.result c.len-end.result ∷ []) c.reserve.ensures.items in
    node_pushed c.self.inside.kids.items c.append.new.list.items c.self.inside.symbols.items c.args.kids.now c.self.inside.rows.items c.push_reserved.new.self.items c.args.production c.len-begin.result c.len-end.result c.self.invariant c.in_ok-append.ensures.ok (omega (arith, c.len-begin.ensures)) (omega (arith, c.len-end.ensures)) pushed
    ∙ ap (λ parts. parts ++ Node c.args.production c.args.kids.now ∷ []) c.self.view_is
