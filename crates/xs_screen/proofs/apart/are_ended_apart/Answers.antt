use Rattle.std.proofs.Common.{◌∙◌, ap, sym, slice_get, ℕ}
use Rattle.xs_screen.proofs.apart.are_ended_apart.Goals as goal

pub returns : goal.returns
returns c = λ e.
    let one = c.args.one.now in
    let other = c.args.other.now in
    record {
      first = c.in-Some.word.now;
      second = c.in-Some-word_at.word2.now;
      at_first = ap (λ (n : ℕ). slice_get one n) (sym c.saturating_sub.ensures) ∙ c.in-Some.ensures;
      at_second = ap (λ (n : ℕ). slice_get other n) (sym c.saturating_sub-2.ensures) ∙ c.in-Some-word_at.ensures;
      apart = rw (c.as_slice.ensures, c.as_slice-2.ensures) at (c.end_apart.ensures e);
    }
