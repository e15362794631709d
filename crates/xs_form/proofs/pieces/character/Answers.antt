use Rattle.std.proofs.Common.{◌≡◌, ℕ, Some, sym, ◌∙◌, subst}
use Rattle.std.specs.Option.{option_map}
use Rattle.xs_xml_laws.specs.Scan.{char_at}
use Rattle.xs_form.specs.Seen.{found, letter, past_feed}
use Rattle.xs_form.proofs.PieceLaws.{return_is}
use Rattle.xs_form.proofs.pieces.character.Goals as goal

pub returns-then-number-eq13 : goal.returns-then-number-eq13
returns-then-number-eq13 c = rw (c.past_feed.ensures) (subst (λ (x : ℕ). Some (letter 10, past_feed c.args.rest.now) ≡ option_map found (char_at x c.args.rest.now)) (sym c.if-number-eq13.true ∙ c.number-number.ensures) (sym (return_is c.args.rest.now)))
