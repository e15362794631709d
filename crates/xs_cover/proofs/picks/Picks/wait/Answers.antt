use Rattle.std.proofs.Common.{◌≡◌, ◌<◌, ◌++◌, ◌∷◌, [], length, ap, arith, ◌∙◌, set}
use Rattle.std.proofs.lemmas.List.{get_or_read}
use Rattle.xs_cover.specs.Picks.{waiters_at}
use Rattle.xs_cover.proofs.Holding.{waits_there}
use Rattle.xs_cover.proofs.picks.Picks.wait.Goals as goal

pub returns-clause-there : goal.returns-clause-there
returns-clause-there c =
    let waits = c.args.self.now.waiting.items in
    let n = c.args.non in
    let within : n < length waits = omega (arith, c.requires.non, c.requires.picks.counted) in
    let row : c.index_mut-list.result.now ≡ waiters_at waits n = get_or_read waits n c.index_mut-list.result.now within c.index_mut-list.ensures.value [] in
    let pushed : c.push.new.self ≡ waiters_at waits n ++ c.args.waiter ∷ [] = c.in_ok-push.ensures.ok ∙ ap (λ l. l ++ c.args.waiter ∷ []) row in
    (length (waiters_at waits n), waits_there waits (set waits n c.push.new.self) n c.args.waiter within (ap (λ l. set waits n l) pushed))
