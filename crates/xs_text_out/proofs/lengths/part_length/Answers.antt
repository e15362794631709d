use Rattle.std.proofs.Common.{◌≡◌, ◌∙◌, Some, ap, length, sym}
use Rattle.std.proofs.lemmas.Option.{same_Some}
use Rattle.xs_tree.specs.Counts.{capped}
use Rattle.xs_tree.specs.Flat.{TreePart, Node, tree_of}
use Rattle.xs_tree.specs.Lent.{lent}
use Rattle.xs_text_out.specs.Printed.{print_length}
use Rattle.xs_text_out.proofs.Words.{node_prints}
use Rattle.xs_text_out.proofs.lengths.part_length.Goals as goal

pub returns-in-Node : goal.returns-in-Node
returns-in-Node c trees found there are =
    let g = c.args.g.now in
    let kids = c.in-Node.kids.now in
    let is : found ≡ Node c.in-Node.production kids = same_Some found (Node c.in-Node.production kids) (sym there ∙ c.part.ensures.part ∙ ap (λ p. Some (lent p)) c.in-Node.is) in
    c.node_length.ensures trees are
    ∙ ap (λ w. capped (length w)) (sym (node_prints g trees c.in-Node.production kids))
    ∙ ap (λ (p : TreePart). print_length g (tree_of trees p)) (sym is)
