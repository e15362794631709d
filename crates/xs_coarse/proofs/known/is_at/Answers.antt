use Rattle.std.proofs.Common.{◌∙◌, ℕ, List, length, Some, refl, sym, ap}
use Rattle.std.proofs.lemmas.Option.{slice_get_read}
use Rattle.xs_class.proofs.Ranges.{same_ranges}
use Rattle.xs_coarse.proofs.known.is_at.Goals as goal

pub returns-then-place-classes : goal.returns-then-place-classes
returns-then-place-classes c = λ t.
    slice_get_read c.args.classes.now (length c.args.classes.now) c.args.number c.index-classes-place.result refl c.if-place-classes.true c.index-classes-place.is
    ∙ ap (λ (x : List (ℕ × ℕ)). Some x) (sym c.ranges-then-place-classes.ensures.value ∙ same_ranges _ _ c.eq.result c.eq.ensures t)
