use Rattle.std.proofs.Common.{ℕ, List, subst}
use Rattle.std.specs.Prelude.{IfSome}
use Rattle.xs_xml_out.specs.Written.{IsAppended}
use Rattle.xs_xml_out.proofs.characters.put_characters.Goals as goal

pub returns-clause-put : goal.returns-clause-put
returns-clause-put c =
    subst (λ (old : List ℕ). IfSome c.put_some.result (λ after. (names : List (List ℕ)) → IsAppended names c.args.mode c.args.word.now old c.put_some.new.out.items after)) c.in_ok-reserve.ensures.items c.put_some.ensures.put
