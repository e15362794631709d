use Rattle.std.proofs.Common.{◌≡◌, ◌-◌, length, drop, reverse}
use Rattle.xs_gram.specs.Spreading.{waiting, partners}
use Rattle.xs_gram.proofs.spread.partners_of.Given as goal

abbrev pub invariant-items : goal.invariant-items
invariant-items l = record {
  later : reverse l.later.items ≡ waiting l.fences (length l.items - l.done) (drop (length l.items - l.done) l.items);
  found : reverse l.found.items ≡ partners l.fences (length l.items - l.done) (drop (length l.items - l.done) l.items);
}
