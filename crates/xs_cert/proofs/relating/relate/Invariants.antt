use Rattle.std.proofs.Common.{◌≡◌, ℕ, ◌<◌, ◌≤◌, false, length}
use Rattle.xs_closed.specs.Rows.{marked}
use Rattle.xs_meet.specs.Sharing.{has_at}
use Rattle.xs_cert.proofs.Relations.{IsRelatedBefore}
use Rattle.xs_cert.proofs.relating.relate.Given as goal

abbrev pub invariant-firsts : goal.invariant-firsts
invariant-firsts l = IsRelatedBefore l.shared l.count l.first l.related
