use Rattle.std.proofs.Common.{rules}
use Rattle.xs_pair.proofs.Alike.{made}
use Rattle.xs_pair.proofs.outline.Outline.two.Goals as goal

pub invariant_of-result : goal.invariant_of-result
invariant_of-result c = made c.args.sheet.now _ (search (rules)) c.in_ok-text.ensures.built c.in_ok-xml.ensures.built c.requires.passed
