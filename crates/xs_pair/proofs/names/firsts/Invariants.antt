use Rattle.std.proofs.Common.{◌≡◌, take, drop}
use Rattle.xs_pair.specs.Units as U
use Rattle.xs_pair.proofs.Places.{HaveSame}
use Rattle.xs_pair.proofs.names.firsts.Given as goal

abbrev pub invariant-texts : goal.invariant-texts
invariant-texts l = record {
  rest : U.with_names l.names.items (drop l.place l.texts) ≡ U.firsts l.texts;
  same : HaveSame l.names.items (take l.place l.texts);
}
