use Rattle.xs_forest.specs.declared.row.Alt.{Alt}
use Rattle.xs_grow.specs.Making.{IsRowOf, IsMade}
use Rattle.xs_grow.proofs.Growing.{misses_then, before_label, last_label, front_made}
use Rattle.xs_grow.proofs.rows.alternative.Goals as goal

pub child-requires-in-Front : goal.child-requires-in-Front
child-requires-in-Front c = before_label c.args.source.now.g.now c.args.source.now.doc.now c.args.key.what c.in-Front.rule c.in-Front.dot c.args.key.start c.args.key.end c.args.number c.in-Front.is c.requires.number c.items-in-Front.result.now c.items-in-Front.ensures.items c.index-items-before.result c.index-items-before.is c.front_label-front.result c.front_label-front.ensures

pub child-requires-in-Front-2 : goal.child-requires-in-Front-2
child-requires-in-Front-2 c = last_label c.args.source.now.g.now c.args.source.now.doc.now c.args.key.what c.in-Front.rule c.in-Front.dot c.args.key.start c.args.key.end c.args.number c.in-Front.is c.requires.number c.items-in-Front.result.now c.items-in-Front.ensures.items c.index-items-before.result c.index-items-before.is c.item_label-last.result c.item_label-last.ensures

pub returns-in_ok-right-in-Front : goal.returns-in_ok-right-in-Front
returns-in_ok-right-in-Front c =
    let s = c.args.source.now in
    let f = c.args.forest.now in
    let k = c.args.key in
    let left = c.in_ok-left-in-Front.left in
    let right = c.in_ok-right-in-Front.right in
    let alt : Alt = record { rule = c.in-Front.rule; left = left; right = right } in
    misses_then s.g.now s.doc.now f (IsRowOf f c.front_label-front.result left) (IsRowOf f c.item_label-last.result right) (IsMade s.g.now f k.what k.start k.end c.args.number alt) c.args.missing.now.items c.child-in-Front.new.missing.items c.child-in-Front-2.new.missing.items c.in_ok-left-in-Front.ensures c.in_ok-right-in-Front.ensures (λ a b. front_made c.args.source.now.g.now c.args.source.now.doc.now c.args.key.what c.in-Front.rule c.in-Front.dot c.args.key.start c.args.key.end c.args.number c.in-Front.is c.requires.number c.items-in-Front.result.now c.items-in-Front.ensures.items c.index-items-before.result c.index-items-before.is f c.front_label-front.result c.item_label-last.result left right c.front_label-front.ensures c.item_label-last.ensures a b)
