use Rattle.std.proofs.Common.{arith}
use Rattle.xs_regex.proofs.compose.sequence.Goals as goal

pub link_after-requires-clause-sources : goal.link_after-requires-clause-sources
link_after-requires-clause-sources c = λ k h. rw c.requires.front.rows (c.requires.front.last_in k (rw c.as_slice.ensures at h))

pub link_after-requires-clause-targets : goal.link_after-requires-clause-targets
link_after-requires-clause-targets c = λ k h. omega (arith, c.requires.rest.first_in k (rw c.as_slice-2.ensures at h))

pub push_shifted-requires : goal.push_shifted-requires
push_shifted-requires c = λ k h. omega (arith, c.requires.rest.first_in k (rw c.as_slice-then-p.ensures at h))

pub push_shifted-requires-2 : goal.push_shifted-requires-2
push_shifted-requires-2 c = λ k h. omega (arith, c.requires.rest.last_in k (rw c.as_slice-3.ensures at h))

pub push_rows-requires : goal.push_rows-requires
push_rows-requires c = λ j k h. omega (arith, c.requires.rest.follow_in j k (rw c.as_slice-4.ensures at h))
