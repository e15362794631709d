use Rattle.std.proofs.Common.{ℕ, List, subst}
use Rattle.xs_class.specs.declared.side.Side.TheVariants.{Text}
use Rattle.xs_chars.specs.declared.form.Form.TheVariants.{AsIs}
use Rattle.xs_top.specs.Documents.{IsDocument}
use Rattle.xs_top.proofs.Writing.{turned_by}
use Rattle.xs_top.proofs.turned.turned_text.Goals as goal

pub returns-clause-answer : goal.returns-clause-answer
returns-clause-answer c =
    let document = subst (λ (names : List (List ℕ)). IsDocument Text AsIs names c.args.text.now c.in_ok-doc.doc) c.names.ensures c.in_ok-doc.ensures.document in
    turned_by c.prints_normal.ensures _ c.requires.sound _ _ _ _ _ _ _ document c.in_ok-tree.ensures.tree c.in_ok-xml.ensures
