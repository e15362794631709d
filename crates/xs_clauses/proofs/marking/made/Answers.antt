use Rattle.std.proofs.Common.{ap, ◌∙◌, length}
use Rattle.xs_clauses.proofs.Complete.{made_is_set}
use Rattle.xs_clauses.proofs.marking.made.Goals as goal

pub returns : goal.returns
returns c =
    let run = c.in_ok-run.ensures in
    record {
      counted = ap length c.from_vec.ensures ∙ run.count ∙ c.in_ok-search.ensures.count;
      exact = λ n l. (λ s. run.fits.made n (rw c.from_vec.ensures at s), λ h. rw c.from_vec.ensures (made_is_set c.args.clauses.now c.run.new.self.flags.items n run.closed h));
    }
