use Rattle.xs_regex.proofs.compose.round.Goals as goal

pub link-requires : goal.link-requires
link-requires c = λ k h. rw c.requires.rows (c.requires.last_in k (rw c.as_slice.ensures at h))
