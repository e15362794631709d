-- Where closed sets of pairs of states of covers show it, there is no suspect.
use Rattle.std.proofs.Common.{◌≡◌, inl, inr, ℕ, ◌-◌, ◌≤◌, List, [], ◌++◌, length, take, drop, refl, sym, ap, ◌∙◌, arith}
use Rattle.std.proofs.lemmas.Bool.{cases_lt}
use Rattle.std.proofs.lemmas.List.{drop_all, take_all}
use Rattle.std.specs.Prelude.{slice_range}
use Rattle.xs_class.proofs.Lists.{front_empty, some_length}
use Rattle.xs_auto.specs.Nests.{AcceptsNested}
use Rattle.xs_meet.specs.Closed.{Marked}
use Rattle.xs_meet.proofs.NestLemmas.{apart, clear}
use Rattle.xs_gram.specs.declared.parts.GItem.{GItem}
use Rattle.xs_gram.specs.Grammar.{Grammar}
use Rattle.xs_gram.specs.Fences.{spread}
use Rattle.xs_gram.specs.Loose.{IsLoose, loose_none, loose_then, loose_group}
use Rattle.xs_gram.proofs.Levels.{no_group}
use Rattle.xs_check_laws.proofs.Words.{loose_level}
use Rattle.xs_coarse.specs.Coarse.{MayCall, view}
use Rattle.xs_coarse_laws.specs.Laws.{ApartSharesNone, ClearOverlapsNot}
use Rattle.xs_loose.proofs.Stretches.{slice_stretch}
use Rattle.xs_coarse_laws.proofs.Spelling.{covers_accept_loose}
use Rattle.xs_coarse_laws.proofs.Taming.{fenced, tame_view}
use Rattle.xs_coarse_laws.proofs.Views.{crosses_same, views_same, view_accepts}

-- no items have no loose word but the empty one
nothing_loose : {g : Grammar} {is : List GItem} {w : List ℕ} → IsLoose g is w → is ≡ [] → w ≡ []
nothing_loose loose_none e = refl
nothing_loose (loose_then plain l t h) e = absurd cc
nothing_loose (loose_group f i t split h) e = absurd (no_group (sym e ∙ split))

pub apart_shares_none : ApartSharesNone
apart_shares_none g nest covering t unfenced settled m n p k q j is js a b c d first second covers_first covers_second low_first low_second marks w loose_first loose_second =
    apart nest (fenced g nest covering) (MayCall t) settled (view t m a b) (view t n c d) (Marked marks.0) (tame_view g nest covering t unfenced m a b) (tame_view g nest covering t unfenced n c d) marks.1 w (record {
      first = view_accepts t m low_first (covers_accept_loose g nest covering (view t m a b) p k is a b first covers_first w loose_first);
      second = view_accepts t n low_second (covers_accept_loose g nest covering (view t n c d) q j js c d second covers_second w loose_second);
    })

pub clear_overlaps_not : ClearOverlapsNot
clear_overlaps_not g nest covering t unfenced settled n p start place end here last stretch cut low_here low_last z1 z0 z2 z3 marks x a y o =
    elim (cases_lt (length (spread g p)) place) [
      | inl past ↦
          let beyond : drop place (spread g p) ≡ [] = drop_all place (spread g p) (omega arith) in
          let nothing_there = ap (λ (is : List GItem). take (end - place) is) beyond ∙ take_all (end - place) [] (omega arith) in
          some_length a o.some (front_empty a y (nothing_loose o.long_rest nothing_there))
      | inr within ↦ clear nest (fenced g nest covering) (MayCall t) settled (view t n 0 here) (view t n here last) (Marked z1) (Marked z0) (Marked z2) (Marked z3) (tame_view g nest covering t unfenced n 0 here) (tame_view g nest covering t unfenced n here last) marks x a y (record {
        some = o.some;
        short_front = of_front within x o.short_front;
        long_front = of_front within (x ++ a) o.long_front;
        short_rest = of_rest within y o.short_rest;
        long_rest = of_rest within (a ++ y) o.long_rest;
      })
    ]
  where
    of_front : place ≤ length (spread g p) → (w : List ℕ) → IsLoose g (slice_range (spread g p) start place) w → AcceptsNested nest (view t n 0 here) w
    of_front within w loose =
        let lies = slice_stretch stretch.rule (omega (arith, within, cut.low)) cut.low (loose_level loose) in
        view_accepts t n low_here (crosses_same (covers_accept_loose g nest covering (view t n 0 last) p start _ 0 here lies cut.front w loose) (view t n 0 here) (views_same t n 0 last 0 here))

    of_rest : place ≤ length (spread g p) → (w : List ℕ) → IsLoose g (slice_range (spread g p) place end) w → AcceptsNested nest (view t n here last) w
    of_rest within w loose =
        let lies = slice_stretch stretch.rule within cut.high (loose_level loose) in
        view_accepts t n low_last (crosses_same (covers_accept_loose g nest covering (view t n 0 last) p place _ here last lies cut.rest w loose) (view t n here last) (views_same t n 0 last here last))
