use Rattle.std.proofs.Common.{arith}
use Rattle.xs_atoms.proofs.Fixing.{symbol_pushed}
use Rattle.xs_atoms.proofs.fixed.push_symbols.Goals as goal

pub symbols-preserved : goal.symbols-preserved
symbols-preserved c =
    symbol_pushed c.symbols.ranges.items c.push.new.self.items c.args.ranges.now.items c.args.symbols.now c.symbols.symbol-index c.symbol-item.result c.number.result c.number-in-symbols.result (omega arith) c.symbol-item.is c.number.ensures c.number-in-symbols.ensures c.symbols.invariant c.in_ok-push.ensures.items
