use Rattle.std.proofs.Common.{◌≡◌, ◌++◌, Some, drop}
use Rattle.xs_lex.specs.declared.quoted.Spot.TheVariants.{Between}
use Rattle.xs_lex.specs.Scan.{value_at, IsBounded}
use Rattle.xs_lex.proofs.quoted.value.Given as goal

abbrev pub invariant-units : goal.invariant-units
invariant-units l = record {
  bounded : IsBounded l.spot;
  so_far : value_at (Some Between) l.text ≡ l.value ++ value_at (Some l.spot) (drop l.c-index l.text);
}
