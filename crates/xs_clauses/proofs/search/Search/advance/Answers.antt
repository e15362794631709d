use Rattle.std.proofs.Common.{◌≡◌, ◌<◌, length, get_or, ◌∙◌, ap, arith}
use Rattle.std.proofs.lemmas.List.{get_or_read}
use Rattle.std.proofs.lemmas.List.Elements.{All-get_or}
use Rattle.xs_clauses.specs.declared.clause.Clause.{Clause}
use Rattle.xs_clauses.specs.Made.{IsBelow, IsMade}
use Rattle.xs_clauses.specs.Search.{clause_of, no_clause}
use Rattle.xs_clauses.proofs.Growth.{fits_moved, head_made, fits_marked, settled_waits}
use Rattle.xs_clauses.proofs.search.Search.advance.Goals as goal

pub returns-then-dot-premises-clause-settled : goal.returns-then-dot-premises-clause-settled
returns-then-dot-premises-clause-settled c =
    let s = c.args.self.now in
    let clauses = c.args.clauses.now in
    let here : c.index-clauses-place.result ≡ clause_of clauses c.args.place = get_or_read clauses c.args.place _ c.requires.place c.index-clauses-place.is no_clause in
    let e : c.as_slice-premises.result.now ≡ (clause_of clauses c.args.place).premises = c.as_slice-premises.ensures ∙ ap (λ (d : Clause). d.premises) here in
    settled_waits clauses s.flags.items s.found.items s.dots.items c.args.place _ c.first_unset-dot.result _ e c.requires.fits (rw c.deref.ensures.value at c.first_unset-dot.ensures) c.if-dot-premises.true

pub returns-clause-fits : goal.returns-clause-fits
returns-clause-fits c =
    let s = c.args.self.now in
    let clauses = c.args.clauses.now in
    let here : c.index-clauses-place.result ≡ clause_of clauses c.args.place = get_or_read clauses c.args.place _ c.requires.place c.index-clauses-place.is no_clause in
    let e : c.as_slice-premises.result.now ≡ (clause_of clauses c.args.place).premises = c.as_slice-premises.ensures ∙ ap (λ (d : Clause). d.premises) here in
    let f : c.index.result.now ≡ get_or s.dots.items c.args.place 0 = get_or_read s.dots.items c.args.place _ (omega (arith, c.requires.fits.counted)) c.index.ensures 0 in
    let first = rw c.deref.ensures.value at c.first_unset-dot.ensures in
    let moved = fits_moved clauses s.flags.items s.found.items s.dots.items c.args.place _ c.first_unset-dot.result _ e f c.requires.place c.requires.fits first in
    let head = head_made clauses s.flags.items s.found.items s.dots.items c.args.place _ c.first_unset-dot.result _ e f c.requires.place c.requires.fits first c.if-dot-premises.false in
    let below : IsBelow (length s.flags.items) (clause_of clauses c.args.place) = All-get_or (IsBelow (length s.flags.items)) clauses c.args.place no_clause c.requires.place c.requires.below in
    let made : IsMade clauses c.index-clauses-place.result.head = rw here head in
    let low : c.index-clauses-place.result.head < length s.flags.items = rw here below.head in
    fits_marked clauses _ _ c.index-clauses-place.result.head moved made low c.in_ok-mark.ensures
