use Rattle.std.proofs.Common.{◌∙◌}
use Rattle.std.specs.Str.{chars}
use Rattle.xs_sheet.proofs.Pieced.{letter_some, inner_is, inner_some}
use Rattle.xs_sheet.proofs.pieces.between_slashes.Goals as goal
use Rattle.xs_regex.proofs.Places.{ok_weaker}

pub slice_bounds-without_last-count : goal.slice_bounds-without_last-count
slice_bounds-without_last-count c = letter_some c.deref.result.now (chars c.args.text.now) (c.deref.ensures.value ∙ c.in_ok-letters.ensures) c.requires

pub without_last-requires : goal.without_last-requires
without_last-requires c = inner_some c.deref.result.now (chars c.args.text.now) (c.deref.ensures.value ∙ c.in_ok-letters.ensures) c.requires

pub returns : goal.returns
returns c =
    ok_weaker c.without_last.result _ _ (λ t h. inner_is c.deref.result.now (chars c.args.text.now) t (c.deref.ensures.value ∙ c.in_ok-letters.ensures) c.requires h) c.without_last.ensures
