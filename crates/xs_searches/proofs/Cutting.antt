-- The front and the rest of a cut are parts, with nets where all rules are light.
use Rattle.std.proofs.Common.{ℕ, ◌<◌, ◌≤◌, List, length, sym, ◌∙◌, arith, Result, Ok, Err, IfOk, Option, None, Some, IfSome}
use Rattle.std.specs.List.{slice_range}
use Rattle.xs_auto.specs.Nets.{Graph}
use Rattle.xs_auto.specs.Nests.{Group}
use Rattle.xs_gram.specs.Grammar.{Grammar}
use Rattle.xs_gram.specs.Cuts.{CutsAt, CutsAreOne}
use Rattle.xs_gram.specs.Fences.{spread}
use Rattle.xs_gram.specs.Sound.{IsBuilt}
use Rattle.xs_gram.specs.Suspects.{IsHorizontal}
use Rattle.xs_gram.proofs.Cuts.{cut_level}
use Rattle.xs_check_laws.specs.Acceptance.{IsLight}
use Rattle.xs_class.specs.declared.memory.Memory.{Memory}
use Rattle.xs_meet.specs.declared.overlap.Overlap.{Overlap}
use Rattle.xs_meet.specs.Shared.{AreOverlapOver}
use Rattle.xs_loose.specs.declared.part.Part.{Part}
use Rattle.xs_loose.specs.Nets.{IsNumbered, IsNetOf, IsNestOf}
use Rattle.xs_loose.specs.Parts.{IsPart, part_items, AreLight}
use Rattle.xs_loose.proofs.Stretches.{part_stretch}
use Rattle.xs_loose.specs.Laws.{NetsAcceptLoose, NetsAreTame}
use Rattle.xs_searches.specs.declared.nets.CutNets.{CutNets}
use Rattle.xs_searches.specs.Spaces.{AcceptsLoose, AreCutNets}
use Rattle.xs_searches.proofs.Lightness.{cut_light}

module _ (g : Grammar) (built : IsBuilt g) (p c start end : ℕ) (lt : p < length g.rules) (at : CutsAt g.fences (spread g p) c start end) where
  pub front_part : IsPart g (record { rule = p; start = start; end = c })
  front_part = record { rule = lt; order = at.low; within = omega (arith, at.middle, at.high); level = (cut_level at.cut).0 }

  pub rest_part : IsPart g (record { rule = p; start = c; end = end })
  rest_part = record { rule = lt; order = at.middle; within = at.high; level = (cut_level at.cut).1 }

  pub front_light : IsLight g → AreLight g (part_items g (record { rule = p; start = start; end = c }))
  front_light light = (cut_light g built light p c (slice_range (spread g p) start c) (slice_range (spread g p) c end) lt at.cut).0

  pub rest_light : IsLight g → AreLight g (part_items g (record { rule = p; start = c; end = end }))
  rest_light light = (cut_light g built light p c (slice_range (spread g p) start c) (slice_range (spread g p) c end) lt at.cut).1

  accepts : (nest : List Group) → IsNestOf g nest → NetsAcceptLoose → NetsAreTame → (part : Part) → IsPart g part → (n : Graph) → IsNetOf g part n → AcceptsLoose g nest (part_items g part) n
  accepts nest is_nest loose tame part is n net =
      let stretch = part_stretch g part is in
      record {
        tame = tame g built nest is_nest part.rule part.start (part_items g part) n stretch net;
        words = λ w. loose g built nest is_nest part.rule part.start (part_items g part) n stretch net w;
      }

  -- the nets of a cut accept the loose words of its front and its rest
  pub cut_nets_accept : (nest : List Group) → IsNestOf g nest → NetsAcceptLoose → NetsAreTame → CutsAreOne → c ≤ length (spread g p) → (nets : CutNets)
      → IsNumbered g p start (slice_range (spread g p) start c) nets.front → IsNumbered g p c (slice_range (spread g p) c end) nets.rest → AreCutNets g nest p c nets
  cut_nets_accept nest is_nest loose tame law within nets front rest =
      let one = law g built.proper p c within in
      let own = one.only (slice_range (spread g p) start c) (slice_range (spread g p) c end) at.cut in
      record {
        front_items = slice_range (spread g p) start c;
        rest_items = slice_range (spread g p) c end;
        cut = at.cut;
        only = λ f r k. (let q = one.only f r k in (q.0 ∙ sym own.0, q.1 ∙ sym own.1));
        front = accepts nest is_nest loose tame (record { rule = p; start = start; end = c }) front_part nets.front front;
        rest = accepts nest is_nest loose tame (record { rule = p; start = c; end = end }) rest_part nets.rest rest;
      }

-- what a search over the nets of a cut finds shows that it is a suspect
pub overlap_shows : (g : Grammar) (nest : List Group) (p c : ℕ) (nets : CutNets) → p < length g.rules → 0 < c → c < length (spread g p) → AreCutNets g nest p c nets → (o : Result (Option Overlap) Memory)
    → IfOk o (λ found. IfSome found (λ w. AreOverlapOver nest nets.front nets.rest w.x w.a w.y)) → IfOk o (λ found. IfSome found (λ w. IsHorizontal g p c w.x w.a w.y))
overlap_shows g nest p c nets lt low high are (Ok (Some w)) over = record {
  rule = lt;
  low = low;
  high = high;
  front = are.front_items;
  rest = are.rest_items;
  cut = are.cut;
  overlap = record {
    some = over.some;
    short_front = (are.front.words _).0 over.short_front;
    long_front = (are.front.words _).0 over.long_front;
    short_rest = (are.rest.words _).0 over.short_rest;
    long_rest = (are.rest.words _).0 over.long_rest;
  };
}
overlap_shows g nest p c nets lt low high are (Ok None) over = over
overlap_shows g nest p c nets lt low high are (Err e) over = over
