use Rattle.xs_class.specs.declared.side.Side.TheVariants.{Text}
use Rattle.std.proofs.Common.{◌≡◌, ℕ, List, [], ◌∷◌, map, string_bytes}
use Rattle.std.specs.Prelude.{codes}
use Rattle.xs_client.proofs.Asking.{sheet_name, rounds}
use Rattle.xs_client.proofs.Twice.{answered, ends, rounded}
use Rattle.xs_client.proofs.back.round_twice.Goals as goal

pub returns-clause-same : goal.returns-clause-same
returns-clause-same c = λ first second.
    let two = rw c.as_slice.ensures at c.in_ok-second.ensures in
    let asks : map string_bytes c.deref.result.now ≡ codes "round" ∷ sheet_name ∷ codes "text" ∷ [] = rw c.deref.ensures.value c.in_ok-words.ensures in
    let again : map string_bytes c.deref-2.result.now ≡ codes "round" ∷ sheet_name ∷ codes "text" ∷ [] = rw c.deref-2.ensures.value c.in_ok-words.ensures in
    let a = rounded _ _ _ _ _ _ _ _ c.requires c.in_ok-first.ensures two c.round_is_idempotent.ensures.round Text (rounds _ asks) (rounds _ again) first in
    answered _ _ _ _ _ _ _ _ c.requires c.in_ok-first.ensures two (λ (last : List ℕ). last ≡ c.in_ok-first.first.written) a second

pub returns-clause-ends : goal.returns-clause-ends
returns-clause-ends c = λ first few.
    let two = rw c.as_slice.ensures at c.in_ok-second.ensures in
    let asks : map string_bytes c.deref.result.now ≡ codes "round" ∷ sheet_name ∷ codes "text" ∷ [] = rw c.deref.ensures.value c.in_ok-words.ensures in
    let again : map string_bytes c.deref-2.result.now ≡ codes "round" ∷ sheet_name ∷ codes "text" ∷ [] = rw c.deref-2.ensures.value c.in_ok-words.ensures in
    let a = rounded _ _ _ _ _ _ _ _ c.requires c.in_ok-first.ensures two c.round_is_idempotent.ensures.round Text (rounds _ asks) (rounds _ again) first in
    ends _ _ _ _ _ _ _ _ c.requires c.in_ok-first.ensures two (λ (last : List ℕ). last ≡ c.in_ok-first.first.written) a few
