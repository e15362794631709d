use Rattle.std.proofs.Common.{ℕ, List, subst, sym}
use Rattle.std.specs.Prelude.{IfSome}
use Rattle.xs_xml_out.specs.declared.mode.Mode.{Mode}
use Rattle.xs_xml_out.specs.Written.{IsAppended}
use Rattle.xs_xml_out.proofs.Appended.{appended_after_tag}
use Rattle.xs_xml_out.proofs.characters.put_some.Goals as goal

pub returns-in-Content-clause-put : goal.returns-in-Content-clause-put
returns-in-Content-clause-put c =
    subst (λ (m : Mode). IfSome c.put_each.result (λ after. (names : List (List ℕ)) → IsAppended names m c.args.word.now c.args.out.now.items c.put_each.new.out.items after)) (sym c.in-Content.is) c.put_each.ensures.put

pub returns-in-Tag-clause-put : goal.returns-in-Tag-clause-put
returns-in-Tag-clause-put c =
    subst (λ (m : Mode). IfSome c.put_each-in-Tag.result (λ after. (names : List (List ℕ)) → IsAppended names m c.args.word.now c.args.out.now.items c.put_each-in-Tag.new.out.items after)) (sym c.in-Tag.is)
    (appended_after_tag c.put_each-in-Tag.result c.args.word.now c.args.out.now.items c.push_reserved.new.self.items c.put_each-in-Tag.new.out.items c.requires.some c.push_reserved.ensures.items c.put_each-in-Tag.ensures.characters c.put_each-in-Tag.ensures.put)

pub returns-in-Value-clause-put : goal.returns-in-Value-clause-put
returns-in-Value-clause-put c =
    subst (λ (m : Mode). IfSome c.put_each-in-Value.result (λ after. (names : List (List ℕ)) → IsAppended names m c.args.word.now c.args.out.now.items c.put_each-in-Value.new.out.items after)) (sym c.in-Value.is) c.put_each-in-Value.ensures.put
