use Rattle.std.proofs.Common.{ap}
use Rattle.xs_class.specs.declared.side.Side.{Side}
use Rattle.xs_tree.specs.Flat.{common_of}
use Rattle.xs_pair.specs.Grammars.{grammar_of}
use Rattle.xs_turn.proofs.Sides.{has_tree, translated}
use Rattle.xs_turn.proofs.translating.turned_to.Goals as goal

pub returns-then-is_other-clause-translated : goal.returns-then-is_other-clause-translated
returns-then-is_other-clause-translated c =
    let p = c.args.two.now in
    let turned = c.in_ok-turned.turned in
    let tree = common_of turned.tree in
    let has = has_tree (grammar_of p c.args.from) c.args.doc.now turned.grown.forest turned.grown.root tree c.in_ok-turned.ensures.tree in
    translated p c.requires.text c.requires.xml c.args.from c.args.to c.args.doc.now turned.word tree _ has (ap (λ (s : Side). grammar_of p s) (c.is_other.ensures c.if-is_other.true)) c.in_ok-turned.ensures.word

pub returns-clause-translated : goal.returns-clause-translated
returns-clause-translated c =
    let p = c.args.two.now in
    let turned = c.in_ok-turned.turned in
    let tree = common_of turned.tree in
    let has = has_tree (grammar_of p c.args.from) c.args.doc.now turned.grown.forest turned.grown.root tree c.in_ok-turned.ensures.tree in
    translated p c.requires.text c.requires.xml c.args.from c.args.to c.args.doc.now c.in_ok-word.word tree _ has c.gram.ensures c.in_ok-word.ensures
