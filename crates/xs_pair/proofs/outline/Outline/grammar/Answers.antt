use Rattle.xs_pair.proofs.Ready.{can_build}
use Rattle.xs_pair.proofs.outline.Outline.grammar.Goals as goal

pub build-requires : goal.build-requires
build-requires c =
    can_build c.requires.bytes.0 c.args.sheet.now c.args.names.now c.args.side c.in_ok-parts.parts c.requires.bytes.2 c.requires.named c.in_ok-parts.ensures.of c.in_ok-parts.ensures.terms c.in_ok-parts.ensures.skips c.requires.passed c.requires.small
