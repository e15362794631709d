use Rattle.std.proofs.Common.{◌≡◌, ◌∙◌, false, true, rules, sym}
use Rattle.std.proofs.lemmas.Bool.{false≢true}
use Rattle.xs_script.proofs.Requests.{no_put, no_other}
use Rattle.xs_script.proofs.request.read_request.Goals as goal

pub returns-in-None : goal.returns-in-None
returns-in-None c =
    let put : c.is_word-2.result ≡ true = search (rules) in
    no_put c.args.text.now c.in-Some.word.now c.in-Some.rest.now c.in-Some.ensures.1 c.in-Some.ensures.0 (c.is_word-2.ensures.0 put) (rw c.in-None.is at c.in_ok-at.ensures)

pub returns : goal.returns
returns c =
    let put : c.is_word-2.result ≡ false = search (rules) in
    let next : c.is_word-3.result ≡ false = search (rules) in
    no_other c.args.text.now c.in-Some.word.now c.in-Some.rest.now c.in-Some.ensures.1 c.in-Some.ensures.0 (λ e. false≢true (sym put ∙ c.is_word-2.ensures.1 e)) (λ e. false≢true (sym next ∙ c.is_word-3.ensures.1 e))
