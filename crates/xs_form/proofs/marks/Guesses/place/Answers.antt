use Rattle.std.proofs.Common.{refl, sym, rules}
use Rattle.xs_class.specs.Ordered.{place_of}
use Rattle.xs_form.proofs.NameLaws.{known_back}
use Rattle.xs_form.proofs.marks.Guesses.place.Goals as goal

pub returns-then-is_ascii_name-clause-value : goal.returns-then-is_ascii_name-clause-value
returns-then-is_ascii_name-clause-value c = known_back (place_of c.args.names.now) _ _ _ c.args.name.now (sym c.name.ensures.back) refl (c.is_ascii_name.ensures (search rules)) c.requires
