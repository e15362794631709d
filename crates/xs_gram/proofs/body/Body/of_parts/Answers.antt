use Rattle.std.proofs.Common.{◌∙◌, refl}
use Rattle.xs_gram.proofs.Ready.{ready}
use Rattle.xs_gram.proofs.body.Body.of_parts.Goals as goal

pub returns-clause-ready : goal.returns-clause-ready
returns-clause-ready c = ready c.args.parts _ c.requires (record {
  start = refl;
  nons = refl;
  rules = c.into_vec-3.ensures;
  terms = c.in_ok-terms.ensures.all ∙ c.into_vec.ensures;
  skips = c.in_ok-skips.ensures.all ∙ c.into_vec-2.ensures;
  fences = c.into_vec-4.ensures;
}) c.in_ok-terms.ensures.automata c.in_ok-skips.ensures.automata
