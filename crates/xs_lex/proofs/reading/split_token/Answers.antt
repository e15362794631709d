use Rattle.std.proofs.Common.{sym, None, Some}
use Rattle.std.specs.declared.option.Option.{Option}
use Rattle.std.specs.Option.{IfNone}
use Rattle.xs_lex.proofs.TokenLaws.{nothing_is}
use Rattle.xs_lex.proofs.Reached.{token_cut, token_within}
use Rattle.xs_lex.proofs.reading.split_token.Goals as goal

if_none : {T : Type 0} (o : Option T) (P : Type 0) → P → IfNone o P
if_none None P p = p
if_none (Some x) P p = tt

pub returns-in_err-kind-clause-none : goal.returns-in_err-kind-clause-none
returns-in_err-kind-clause-none c = if_none c.from_residual.result _ (nothing_is c.args.text.now (sym c.in_err-kind.ensures))

pub split_at-requires : goal.split_at-requires
split_at-requires c = token_within c.args.text.now c.in_ok-kind.kind c.in_ok-kind.length (sym c.in_ok-kind.ensures)

pub returns-clause-found : goal.returns-clause-found
returns-clause-found c = token_cut c.args.text.now c.split_at.result.0.now c.split_at.result.1.now c.in_ok-kind.kind c.in_ok-kind.length (sym c.in_ok-kind.ensures) c.split_at.ensures.front c.split_at.ensures.back
