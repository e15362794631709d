use Rattle.std.proofs.Common.{sym, ◌∙◌, ap}
use Rattle.xs_earley.specs.declared.rows.Row.{Row}
use Rattle.xs_earley.proofs.Arrivals.{term_there, skip_there}
use Rattle.xs_earley.proofs.following.add_item.Goals as goal

pub term-requires : goal.term-requires
term-requires c = term_there c.args.g.now c.args.facts.now c.requires.built c.requires.facts c.args.item.state c.requires.state c.in-AtTerm.term (sym (ap (λ (r : Row). r.stand) c.row-row.ensures) ∙ c.in-AtTerm.is)

pub skip-requires : goal.skip-requires
skip-requires c = skip_there c.args.g.now c.args.facts.now c.requires.built c.requires.facts c.args.item.state c.requires.state c.in-AtSkip.skip (sym (ap (λ (r : Row). r.stand) c.row-row.ensures) ∙ c.in-AtSkip.is)
