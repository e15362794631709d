use Rattle.std.proofs.Common.{◌≡◌, ◌++◌, ℕ, Option, None, sym, ◌∙◌, ap, append-nil}
use Rattle.std.specs.Prelude.{slice_get}
use Rattle.xs_earley.specs.Following.{letter_next}
use Rattle.xs_earley.proofs.Arrivals.{get_none}
use Rattle.xs_earley.proofs.following.add_letter.Goals as goal

pub returns-in-None : goal.returns-in-None
returns-in-None c =
    let items = c.args.ranges.now.items in
    let none : slice_get c.args.letters.now c.args.place ≡ None = get_none c.args.letters.now c.args.place c.in-None.ensures.lookup.3 in
    sym (ap (λ (o : Option ℕ). items ++ letter_next o) none ∙ append-nil items)
