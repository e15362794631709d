use Rattle.xs_gram.specs.Spreading.{ArePartners}
use Rattle.xs_gram.proofs.body.Body.partners.Given as goal

abbrev pub invariant-rules : goal.invariant-rules
invariant-rules l = ArePartners l.self l.items-index l.lists.items
