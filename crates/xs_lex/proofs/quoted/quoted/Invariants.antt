use Rattle.std.proofs.Common.{◌≡◌, ◌+◌, Some, drop}
use Rattle.xs_lex.specs.declared.quoted.Spot.TheVariants.{Between}
use Rattle.xs_lex.specs.Scan.{quoted_end, IsBounded}
use Rattle.xs_lex.proofs.quoted.quoted.Given as goal

abbrev pub invariant-units : goal.invariant-units
invariant-units l = record {
  bounded : IsBounded l.spot;
  so_far : quoted_end (Some Between) 1 l.text ≡ quoted_end (Some l.spot) (l.n + 1) (drop l.n l.text);
}
