use Rattle.std.proofs.Common.{◌≡◌, ◌∙◌, ◌++◌, not, subst, sym, ap, [], List, ℕ}
use Rattle.std.specs.Prelude.{IsTrue, ◌↔◌}
use Rattle.xs_sheet.specs.declared.unit.Unit.{Unit}
use Rattle.xs_sheet.specs.declared.item.Item.{Item}
use Rattle.xs_pair.specs.Fences.{IsOpen, side_letters}
use Rattle.xs_pair.specs.Balance.{closes}
use Rattle.xs_pair.proofs.Balancing.{balance_test}
use Rattle.xs_pair.proofs.balance.is_open.Goals as goal

pub returns-in_ok-closes-in-Production : goal.returns-in_ok-closes-in-Production
returns-in_ok-closes-in-Production c =
    let fs = c.args.pairs.now in
    let read = c.in_ok-push_side-in-Production.ensures ∙ ap (λ (w : List ℕ). w ++ side_letters c.as_slice.result.now) c.new-letters.ensures.items in
    let word : c.deref.result.now ≡ side_letters c.in-Production.left = c.deref.ensures.value ∙ read ∙ ap (λ (is : List Item). side_letters is) c.as_slice.ensures in
    subst (λ (u : Unit). IsTrue (not c.in_ok-closes-in-Production.closes) ↔ IsOpen fs u) (sym c.in-Production.is)
    (balance_test c.in_ok-closes-in-Production.closes fs (side_letters c.in-Production.left) c.requires
    (c.in_ok-closes-in-Production.ensures ∙ ap (λ (w : List ℕ). closes fs w []) word))
