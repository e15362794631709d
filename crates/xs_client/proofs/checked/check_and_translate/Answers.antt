use Rattle.std.proofs.Common.{◌≡◌, [], ◌∷◌, map, string_bytes}
use Rattle.std.specs.Prelude.{codes}
use Rattle.xs_client.proofs.Asking.{sheet_name, checks, turns_to_xml}
use Rattle.xs_client.proofs.Twice.{not_refused, decided}
use Rattle.xs_client.proofs.checked.check_and_translate.Goals as goal

pub returns-clause-accepted : goal.returns-clause-accepted
returns-clause-accepted c = λ first refuses.
    let asks : map string_bytes c.deref.result.now ≡ codes "check" ∷ sheet_name ∷ [] = rw c.deref.ensures.value c.in_ok-check.ensures in
    let turns : map string_bytes c.deref-2.result.now ≡ codes "to-xml" ∷ sheet_name ∷ [] = rw c.deref-2.ensures.value c.in_ok-to_xml.ensures in
    not_refused _ _ _ _ _ _ _ _ _ c.requires c.in_ok-first.ensures c.in_ok-second.ensures (checks _ asks) (turns_to_xml _ turns) first c.check_decides.ensures.decides refuses

pub returns-clause-decided : goal.returns-clause-decided
returns-clause-decided c = λ first utf8 few.
    let asks : map string_bytes c.deref.result.now ≡ codes "check" ∷ sheet_name ∷ [] = rw c.deref.ensures.value c.in_ok-check.ensures in
    let turns : map string_bytes c.deref-2.result.now ≡ codes "to-xml" ∷ sheet_name ∷ [] = rw c.deref-2.ensures.value c.in_ok-to_xml.ensures in
    decided _ _ _ _ _ _ _ _ _ c.requires c.in_ok-first.ensures c.in_ok-second.ensures (checks _ asks) (turns_to_xml _ turns) first c.check_decides.ensures.accepts c.refuses_exactly.ensures utf8 few
