use Rattle.std.proofs.Common.{◌<◌, ◌-◌, ◌∙◌, ◌∷◌, [], length, drop, sym, ap, subst, arith}
use Rattle.xs_gram.specs.Laws.{Every}
use Rattle.xs_gram.specs.Grammar.{slots}
use Rattle.xs_gram.specs.Common.{kinds, lookup}
use Rattle.xs_outline.specs.Tables.{either}
use Rattle.xs_outline.proofs.SlotTables.{slots_at, lookup_first, item_before}
use Rattle.xs_outline.proofs.slot_table.set_kinds.Goals as goal

pub set_kind-requires : goal.set_kind-requires
set_kind-requires c =
    subst (λ n. Every (λ s. s < n) (slots (c.index-items-items.result ∷ []))) (omega (arith, c.items.auto.kinds))
    (slots_at (length c.args.kinds.now) c.args.items.now (length c.args.items.now - 1 - c.items.done) c.index-items-items.result c.requires.slots (omega (arith, c.items-test.true)) c.index-items-items.is)

pub items-preserved : goal.items-preserved
items-preserved c s lt =
    c.set_kind.ensures s (omega (arith, lt, c.items.auto.kinds))
    ∙ ap (λ o. either (lookup s (kinds (c.index-items-items.result ∷ []))) o) (c.items.invariant s lt)
    ∙ sym (lookup_first c.index-items-items.result (drop (length c.args.items.now - c.items.done) c.args.items.now) s)
    ∙ ap (λ is. lookup s (kinds is)) (sym (item_before c.args.items.now c.items.done c.index-items-items.result c.items-test.true c.index-items-items.is))
