use Rattle.std.proofs.Common.{ℕ, List, sym, ◌∙◌, ap, subst}
use Rattle.std.specs.Prelude.{Contains, IsTrue, slice_index_or}
use Rattle.xs_regex.specs.declared.position.Position.{Position}
use Rattle.xs_gram.specs.Grammar.{term_of, skip_of}
use Rattle.xs_earley.specs.declared.rows.Row.{Row}
use Rattle.xs_earley.specs.Arriving.{positions_at}
use Rattle.xs_earley.specs.Masks.{has_bit, mask_of}
use Rattle.xs_earley.proofs.Arrivals.{term_there, skip_there}
use Rattle.xs_earley.proofs.Maskings.{term_idle, skip_idle}
use Rattle.xs_earley.proofs.masks.state_mask.Goals as goal

pub term-requires : goal.term-requires
term-requires c = term_there c.args.g.now c.args.facts.now c.requires.built c.requires.facts c.args.state c.requires.state c.in-AtTerm.term (sym (ap (λ (r : Row). r.stand) c.row-row.ensures) ∙ c.in-AtTerm.is)

pub skip-requires : goal.skip-requires
skip-requires c = skip_there c.args.g.now c.args.facts.now c.requires.built c.requires.facts c.args.state c.requires.state c.in-AtSkip.skip (sym (ap (λ (r : Row). r.stand) c.row-row.ensures) ∙ c.in-AtSkip.is)

pub returns-in-AtTerm : goal.returns-in-AtTerm
returns-in-AtTerm c =
    let a = (term_of c.args.g.now c.in-AtTerm.term).automaton in
    let there = c.next_positions-positions.ensures ∙ ap (λ (p : Position). positions_at p c.args.state c.row-row.result.base) c.term.ensures ∙ ap (λ (r : Row). positions_at a c.args.state r.base) c.row-row.ensures in
    term_idle c.args.g.now c.args.facts.now c.args.state c.positions_mask.result c.args.atoms.now c.requires.atoms c.requires.built c.requires.facts c.requires.state c.args.masks.now c.requires.masks c.in-AtTerm.term (sym (ap (λ (r : Row). r.stand) c.row-row.ensures) ∙ c.in-AtTerm.is)
    (λ k n h has. c.positions_mask.ensures k n (subst (λ (l : List ℕ). Contains l k) (sym there) h) (subst (λ (l : List ℕ). IsTrue (has_bit (mask_of c.args.masks.now (slice_index_or l k 0)) n)) (sym c.term_classes.ensures) has))

pub returns-in-AtSkip : goal.returns-in-AtSkip
returns-in-AtSkip c =
    let a = (skip_of c.args.g.now c.in-AtSkip.skip).automaton in
    let there = c.next_positions-positions-in-AtSkip.ensures ∙ ap (λ (p : Position). positions_at p c.args.state c.row-row.result.base) c.skip.ensures ∙ ap (λ (r : Row). positions_at a c.args.state r.base) c.row-row.ensures in
    skip_idle c.args.g.now c.args.facts.now c.args.state c.positions_mask-in-AtSkip.result c.args.atoms.now c.requires.atoms c.requires.built c.requires.facts c.requires.state c.args.masks.now c.requires.masks c.in-AtSkip.skip (sym (ap (λ (r : Row). r.stand) c.row-row.ensures) ∙ c.in-AtSkip.is)
    (λ k n h has. c.positions_mask-in-AtSkip.ensures k n (subst (λ (l : List ℕ). Contains l k) (sym there) h) (subst (λ (l : List ℕ). IsTrue (has_bit (mask_of c.args.masks.now (slice_index_or l k 0)) n)) (sym c.skip_classes.ensures) has))
