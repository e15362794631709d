use Rattle.std.proofs.Common.{◌≡◌, ◌+◌, ◌-◌, ◌≤◌, length, rules, arith}
use Rattle.xs_edit.specs.Edits.{edited, document_limit}
use Rattle.xs_script.proofs.Drafts.{can_edit, draft_edit}
use Rattle.xs_script.proofs.draft.Draft.edit.Goals as goal

pub invariant_of-self-2 : goal.invariant_of-self-2
invariant_of-self-2 c =
    let i = c.self.inside in
    let put = c.args.put.now in
    let is : c.splice.new.doc.items ≡ edited i.doc.items c.args.at c.args.cut put = search (rules) in
    let inside : c.args.at + c.args.cut ≤ length i.doc.items = search (rules, arith) in
    let short : length i.doc.items - c.args.cut + length put ≤ document_limit = search (rules, arith) in
    let le : c.min-self-inside.result ≤ i.same = search (rules) in
    let before : c.min-self-inside.result ≤ c.args.at = search (rules) in
    draft_edit i.two.now i.session i.doc.items put c.splice.new.doc.items c.args.at c.args.cut i.same c.min-self-inside.result i.line c.self.invariant (can_edit i.doc.items put c.args.at c.args.cut inside short) is le before
