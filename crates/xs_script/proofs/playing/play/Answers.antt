use Rattle.std.proofs.Common.{◌≡◌, ◌∙◌, [], true, false, refl, rules, subst}
use Rattle.std.proofs.lemmas.Result.{err_from_is_err_and}
use Rattle.xs_regex.proofs.Flags.{empty_test}
use Rattle.xs_pair.specs.Grammars.{Pair}
use Rattle.xs_script.specs.Playing.{Answers}
use Rattle.xs_script.proofs.Playings.{playing_none, playing_more, playing_whole, playing_bad}
use Rattle.xs_script.proofs.playing.play.Goals as goal

pub lines-init : goal.lines-init
lines-init c = record {
  pair = c.in_ok-draft.ensures.pair;
  playing = playing_none c.args.two.now c.args.script.now c.as_slice-rest.result.now c.new-out.result c.in_ok-draft.draft.document 0 c.as_slice-rest.ensures c.new-out.ensures c.in_ok-draft.ensures.document refl;
}

pub returns-in_err-play_line-clause-fault : goal.returns-in_err-play_line-clause-fault
returns-in_err-play_line-clause-fault c =
    let fault = err_from_is_err_and c.from_residual-in_err-play_line.result c.from_residual-in_err-play_line.ensures.1 in
    rw (fault.1, fault.2) tt

pub returns-then-not-branch-clause-fault : goal.returns-then-not-branch-clause-fault
returns-then-not-branch-clause-fault c =
    let none : c.in_ok-play_line.field-0 ≡ false = search (rules) in
    playing_bad c.args.two.now c.args.script.now c.lines.rest.now c.first_line.result.0.now c.first_line.result.1.now c.lines.out c.lines.draft.document c.lines.number c.lines.invariant.playing c.first_line.ensures.line
    (rw none at c.in_ok-play_line.ensures.played)

pub lines-preserved : goal.lines-preserved
lines-preserved c =
    let yes : c.in_ok-play_line.field-0 ≡ true = search (rules) in
    let a = rw yes at c.in_ok-play_line.ensures.played in
    let answers = subst (λ (p : Pair). Answers p c.lines.draft.document a.0 a.2 c.play_line.new.draft.document) c.lines.invariant.pair a.3 in
    record {
      pair = c.play_line.ensures.pair ∙ c.lines.invariant.pair;
      playing = playing_more c.args.two.now c.args.script.now c.lines.rest.now c.first_line.result.0.now c.first_line.result.1.now c.lines.out c.lines.draft.document a.2 c.play_line.new.out c.play_line.new.draft.document c.lines.number a.0 c.lines.invariant.playing c.first_line.ensures.line c.first_line.ensures.shorter a.1 answers a.4;
    }

pub returns-clause-played : goal.returns-clause-played
returns-clause-played c =
    let over : c.is_empty.result ≡ true = search (rules) in
    let none : c.lines.rest.now ≡ [] = (empty_test c.is_empty.result c.lines.rest.now c.is_empty.ensures).0 over in
    playing_whole c.args.two.now c.args.script.now c.lines.rest.now c.lines.out c.lines.draft.document c.lines.number c.lines.invariant.playing none
