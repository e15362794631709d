use Rattle.std.proofs.Common.{◌≡◌, ◌-◌, suc, Ok, Err, sym, ap, arith}
use Rattle.xs_regex.specs.declared.fault.RegexFault.TheVariants.{BadRegex}
use Rattle.xs_regex.specs.Characters.{items_at}
use Rattle.xs_regex.specs.Meaning.{IsOfItem}
use Rattle.xs_regex.specs.Pieces.{item_of}
use Rattle.xs_regex.specs.Reported.{Adds}
use Rattle.xs_regex.proofs.Adding.{items_none, items_unknown, items_cut, items_end, items_on}
use Rattle.xs_regex.proofs.sets.items.Goals as goal

pub items-init : goal.items-init
items-init c = λ new r h. h

pub returns-in_default : goal.returns-in_default
returns-in_default c = c.items.invariant c.items.into.items (Err BadRegex) (λ k. items_none c.items.bound c.items.here.now (sym c.in_default.ensures))

pub returns-in-Err : goal.returns-in-Err
returns-in-Err c = c.items.invariant c.add.new.into.items (Err c.in-Err.fault) (λ k. items_unknown c.items.bound c.items.here.now c.in-Some.left.now (item_of c.in-Some.piece) (sym c.in-Some.ensures) (c.in-Err.ensures k))

pub returns-in_default-next : goal.returns-in_default-next
returns-in_default-next c = c.items.invariant c.add.new.into.items (Err BadRegex) (λ k. items_cut c.items.bound c.items.here.now (item_of c.in-Some.piece) (λ a. Adds c.items.into.items c.add.new.into.items (IsOfItem a)) (rw c.in_default-next.ensures at (sym c.in-Some.ensures)) c.in-Ok.ensures)

pub returns-then-c-eq93 : goal.returns-then-c-eq93
returns-then-c-eq93 c = c.items.invariant c.add.new.into.items (Ok c.in-Some-next.rest) (items_end c.items.bound c.items.here.now c.in-Some-next.rest.now c.in-Some.left.now c.in-Some-next.c (item_of c.in-Some.piece) c.items.into.items c.add.new.into.items (λ e. omega (arith, e)) (sym c.in-Some.ensures) c.in-Some-next.ensures c.if-c-eq93.true c.in-Ok.ensures)

pub items-preserved : goal.items-preserved
items-preserved c = λ new r h.
    let whole : c.items.bound ≡ suc (c.items.bound - 1) = omega arith in
    c.items.invariant new r (items_on c.items.bound (c.items.bound - 1) c.items.here.now c.in-Some-next.rest.now c.in-Some.left.now c.in-Some-next.c (item_of c.in-Some.piece) c.items.into.items c.add.new.into.items new r whole (sym c.in-Some.ensures) c.in-Some-next.ensures c.if-c-eq93.false c.in-Ok.ensures h)

pub returns : goal.returns
returns c = c.items.invariant c.items.into.items (Err BadRegex) (λ k. let zero : c.items.bound ≡ 0 = omega arith in ap (λ n. items_at n c.items.here.now) zero)
