use Rattle.std.proofs.Common.{◌∙◌, refl, sym, arith}
use Rattle.std.proofs.lemmas.Bool.{true≢false}
use Rattle.std.proofs.lemmas.Option.{slice_get_within}
use Rattle.xs_class.proofs.Truth.{and_true, both_true}
use Rattle.xs_meet.specs.Closed.{Leads}
use Rattle.xs_meet.specs.Searches.{LeadsFrom}
use Rattle.xs_meet.specs.Sharing.{AreKnown}
use Rattle.xs_meet.proofs.SpreadLemmas.{read_at, in_nets, goes_none, goes_more, chained_none, chained_more, closed_all, longer_gains}
use Rattle.xs_meet.proofs.PhaseLemmas.{no_end_longer, follows_of}
use Rattle.xs_meet.proofs.layer.Layer.close_until.Goals as goal

pub places-init : goal.places-init
places-init c =
    let f = c.requires.fits in
    record {
      goes = goes_none (Leads (AreKnown c.args.shared.now) c.args.first.now c.args.second.now) _ c.args.pairs.now (record { map = f.map; room = f.room; in_range = f.in_range; known = f.known });
      seeds = refl;
      chained = chained_none (AreKnown c.args.shared.now) c.args.first.now c.args.second.now c.args.self.now.steps.items;
      none = λ k low t e. omega (arith, low);
    }

pub returns-then-place-len-clause-follows : goal.returns-then-place-len-clause-follows
returns-then-place-len-clause-follows c =
    let goes = c.places.invariant.goes in
    follows_of (record { map = goes.area.map; height = goes.area.height; width = goes.area.width }) goes.longer (omega (arith, c.places.invariant.seeds, c.len-self.ensures, c.args.self.now.steps.ok)) c.places.invariant.chained

pub returns-then-place-len-clause-closed : goal.returns-then-place-len-clause-closed
returns-then-place-len-clause-closed c = closed_all (Leads (AreKnown c.args.shared.now) c.args.first.now c.args.second.now) (omega (arith, c.if-place-len.true, c.len.ensures, c.places.self.steps.ok)) c.places.invariant.goes.closed

pub returns-then-place-len-clause-none : goal.returns-then-place-len-clause-none
returns-then-place-len-clause-none c = λ t k e.
    let within = slice_get_within c.places.self.steps.items k e.end e.at in
    c.places.invariant.none k (omega (arith, within, c.if-place-len.true, c.len.ensures, c.places.self.steps.ok)) t e

pub is_end-requires-clause-first : goal.is_end-requires-clause-first
is_end-requires-clause-first c =
    let here = read_at c.places.self.steps.items c.places.place c.index-at.result.now (omega (arith, c.if-place-len.false, c.len.ensures, c.places.self.steps.ok)) c.index-at.ensures in
    (in_nets c.args.first.now c.args.second.now c.places.pairs c.places.place c.index-at.result.now (record { height = c.requires.nets.height; width = c.requires.nets.width }) c.places.invariant.goes.area c.places.invariant.goes.fits here).0

pub is_end-requires-clause-second : goal.is_end-requires-clause-second
is_end-requires-clause-second c =
    let here = read_at c.places.self.steps.items c.places.place c.index-at.result.now (omega (arith, c.if-place-len.false, c.len.ensures, c.places.self.steps.ok)) c.index-at.ensures in
    (in_nets c.args.first.now c.args.second.now c.places.pairs c.places.place c.index-at.result.now (record { height = c.requires.nets.height; width = c.requires.nets.width }) c.places.invariant.goes.area c.places.invariant.goes.fits here).1

pub returns-then-is_end-clause-follows : goal.returns-then-is_end-clause-follows
returns-then-is_end-clause-follows c =
    let goes = c.places.invariant.goes in
    follows_of (record { map = goes.area.map; height = goes.area.height; width = goes.area.width }) goes.longer (omega (arith, c.places.invariant.seeds, c.len-self.ensures, c.args.self.now.steps.ok)) c.places.invariant.chained

pub returns-then-is_end-clause-some : goal.returns-then-is_end-clause-some
returns-then-is_end-clause-some c =
    let s = c.index-at.result.now in
    let here = read_at c.places.self.steps.items c.places.place s (omega (arith, c.if-place-len.false, c.len.ensures, c.places.self.steps.ok)) c.index-at.ensures in
    let stopped = and_true _ _ (sym c.is_end.ensures ∙ c.if-is_end.true) in
    let both = and_true _ _ stopped.1 in
    (stopped.0, record { end = s; at = here; first = both.0; second = both.1 })

pub expand-requires-clause-first : goal.expand-requires-clause-first
expand-requires-clause-first c =
    let here = read_at c.places.self.steps.items c.places.place c.index-at.result.now (omega (arith, c.if-place-len.false, c.len.ensures, c.places.self.steps.ok)) c.index-at.ensures in
    (in_nets c.args.first.now c.args.second.now c.places.pairs c.places.place c.index-at.result.now (record { height = c.requires.nets.height; width = c.requires.nets.width }) c.places.invariant.goes.area c.places.invariant.goes.fits here).0

pub expand-requires-clause-second : goal.expand-requires-clause-second
expand-requires-clause-second c =
    let here = read_at c.places.self.steps.items c.places.place c.index-at.result.now (omega (arith, c.if-place-len.false, c.len.ensures, c.places.self.steps.ok)) c.index-at.ensures in
    (in_nets c.args.first.now c.args.second.now c.places.pairs c.places.place c.index-at.result.now (record { height = c.requires.nets.height; width = c.requires.nets.width }) c.places.invariant.goes.area c.places.invariant.goes.fits here).1

pub places-preserved : goal.places-preserved
places-preserved c =
    let s = c.index-at.result.now in
    let here = read_at c.places.self.steps.items c.places.place s (omega (arith, c.if-place-len.false, c.len.ensures, c.places.self.steps.ok)) c.index-at.ensures in
    record {
      goes = goes_more (Leads (AreKnown c.args.shared.now) c.args.first.now c.args.second.now) (LeadsFrom (AreKnown c.args.shared.now) c.args.first.now c.args.second.now s.first s.second c.places.place) c.places.place s here (λ x y l. record { origin = refl; leads = l }) c.places.invariant.goes c.expand.ensures.cells c.in_ok-expand.ensures.fits c.in_ok-expand.ensures.ok;
      seeds = c.in_ok-expand.ensures.ok.seeds ∙ c.places.invariant.seeds;
      chained = chained_more (AreKnown c.args.shared.now) s here c.places.invariant.chained c.in_ok-expand.ensures.ok.gains;
      none = λ k low t. no_end_longer c.args.first.now c.args.second.now c.places.place s here (longer_gains _ c.in_ok-expand.ensures.ok.gains) (λ p q. true≢false (sym (both_true _ _ t (both_true _ _ p q)) ∙ sym c.is_end.ensures ∙ c.if-is_end.false)) (λ j before. c.places.invariant.none j before t) k low;
    }
