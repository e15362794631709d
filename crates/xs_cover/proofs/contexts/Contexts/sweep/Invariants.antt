use Rattle.std.proofs.Common.{◌≡◌, ◌<◌, ℕ, false}
use Rattle.xs_cover.specs.Steps.{AreContexts, IsPassed}
use Rattle.xs_cover.specs.Tables.{IsLowered}
use Rattle.xs_cover.proofs.contexts.Contexts.sweep.Given as goal

abbrev pub invariant-rules : goal.invariant-rules
invariant-rules l = record {
  contexts : AreContexts l.two.text l.two.xml l.prices l.self;
  lowered : IsLowered l.lowered l.initial.self.arounds.items l.self.arounds.items;
  passed : l.lowered ≡ false → (p : ℕ) → p < l.rule → IsPassed l.two.text l.two.xml l.prices l.self.arounds.items p;
}
