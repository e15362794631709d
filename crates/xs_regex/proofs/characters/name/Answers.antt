use Rattle.std.proofs.Common.{◌≡◌, ◌∙◌, ◌+◌, ◌<◌, suc, length, get_or, sym, arith}
use Rattle.std.proofs.lemmas.List.{take_rest, get_or_default}
use Rattle.xs_regex.proofs.Names.{name_none, name_split}
use Rattle.xs_regex.proofs.characters.name.Goals as goal

pub returns-then-c-eq125 : goal.returns-then-c-eq125
returns-then-c-eq125 c =
    let within : c.loop-end.end < length c.args.cs.now = omega arith in
    let brace : get_or c.args.cs.now c.loop-end.end 0 ≡ 125 = get_or_default c.args.cs.now c.loop-end.end 0 c.index-cs-end.result within ∙ sym c.index-cs-end.is ∙ c.if-c-eq125.true in
    let next : c.loop-end.end + 1 ≡ suc c.loop-end.end = omega arith in
    rw (take_rest c.args.cs.now (c.loop-end.end + 1), next) (sym (name_split c.args.cs.now c.loop-end.end within brace c.loop-end.invariant))

pub returns : goal.returns
returns c = sym (name_none c.args.cs.now (λ k l. c.loop-end.invariant k (omega arith)))
