use Rattle.std.proofs.Common.{◌≡◌, [], drop, reverse}
use Rattle.xs_pair.specs.Balance.{closes}
use Rattle.xs_pair.proofs.balance.closes.Given as goal

abbrev pub invariant-letters : goal.invariant-letters
invariant-letters l = closes l.pairs l.letters [] ≡ closes l.pairs (drop l.letter-index l.letters) (reverse l.awaited.items)
