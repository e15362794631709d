use Rattle.std.proofs.Common.{ℕ, take}
use Rattle.xs_meet.specs.Searches.{CallsWith}
use Rattle.xs_meet.specs.Sharing.{AreKnown}
use Rattle.xs_meet.proofs.trace.partner_among.Given as goal

abbrev pub invariant-others : goal.invariant-others
invariant-others l = record { none : (h : ℕ) → CallsWith (AreKnown l.shared) l.group (take l.other-index l.others) l.to h → ⊥ }
