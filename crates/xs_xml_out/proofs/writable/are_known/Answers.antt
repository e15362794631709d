use Rattle.std.proofs.Common.{arith, refl, subst}
use Rattle.std.proofs.lemmas.List.{take_all}
use Rattle.std.proofs.lemmas.List.Elements.{All-more}
use Rattle.xs_xml_out.specs.Spelling.{AreKnown, IsKnownSymbol}
use Rattle.xs_xml_out.proofs.writable.are_known.Goals as goal

pub symbols-preserved : goal.symbols-preserved
symbols-preserved c =
    All-more (IsKnownSymbol c.args.tags.now) c.args.symbols.now c.symbols.symbol-index c.symbol-item.result c.symbols-test.true c.symbols.invariant
    (subst (IsKnownSymbol c.args.tags.now) c.symbol-item.is (c.is_known.ensures.0 c.if-not-is_known.false))

pub returns : goal.returns
returns c = (λ _. subst (AreKnown c.args.tags.now) (take_all c.symbols.symbol-index c.args.symbols.now (omega arith)) c.symbols.invariant, λ _. refl)
