use Rattle.std.proofs.Common.{ℕ, List, ◌<◌, [], length, get_or, set, refl, ap, arith}
use Rattle.std.proofs.lemmas.List.{get_or_read}
use Rattle.std.proofs.lemmas.List.Elements.{All-get_or}
use Rattle.xs_clauses.proofs.Rows.{noted_more}
use Rattle.xs_clauses.proofs.uses.note.Goals as goal

pub premises-preserved : goal.premises-preserved
premises-preserved c =
    let start = c.args.uses.now.items in
    let old = c.premises.uses.items in
    let number = get_or c.args.premises.now c.premises.number-index 0 in
    let low : number < length old = omega (arith, All-get_or (λ n. n < length start) c.args.premises.now c.premises.number-index 0 c.premises-test.true c.requires, c.premises.invariant.rows) in
    noted_more c.args.premises.now c.args.place start old _ c.premises.number-index number _ c.premises-test.true refl low (get_or_read old number _ low c.index_mut-row.ensures.value []) (ap (λ (row : List ℕ). set old number row) c.in_ok-push.ensures.ok) c.premises.invariant
