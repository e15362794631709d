-- The candidates that are gathered of a chart's items are the chart's candidates.
use Rattle.std.proofs.Common.{◌≡◌, ℕ, ◌<◌, List, [], length, slice_get, Some, refl, sym, ap, ◌∙◌, subst, arith}
use Rattle.std.specs.Prelude.{Contains}
use Rattle.std.proofs.lemmas.Option.{slice_get_within}
use Rattle.xs_class.proofs.Lists.{get_of, contains_of}
use Rattle.xs_chart.specs.declared.item.Item.{Item}
use Rattle.xs_gram.specs.declared.parts.GItem.{GItem}
use Rattle.xs_gram.specs.declared.parts.GItem.TheVariants.{Fixed, Term, Non, Skip}
use Rattle.xs_gram.specs.declared.places.Place.{Place}
use Rattle.xs_gram.specs.Grammar.{Grammar, rule_of, items}
use Rattle.xs_gram.specs.Places.{at_dot, all_places}
use Rattle.xs_gram.specs.Languages.{InLang}
use Rattle.xs_gram.proofs.Numbers.{as_dot}
use Rattle.xs_chart_laws.specs.Charts.{IsNumber, HasPlace, IsChartOf, set_at}
use Rattle.xs_chart_laws.proofs.Numbers.{one_place}
use Rattle.xs_chart_laws.proofs.Charts.{chart_all_stand, chart_has_all}
use Rattle.xs_chart_laws.proofs.Language.{whole_of}
use Rattle.xs_forest_laws.specs.declared.span.What.TheVariants.{Whole}
use Rattle.xs_forest_laws.specs.Forest.{key_at}
use Rattle.xs_forest_laws.specs.Grown.{IsFinished, ItemOver}
use Rattle.xs_grow.specs.declared.call.Call.{Call}
use Rattle.xs_grow.specs.Lists.{HasAllOf}
use Rattle.xs_grow.specs.Candidates.{Candidate, call_at, WholeCandidate, FrontCandidate, WholeAt, EndsAt, FrontFrom, InSets, AreCallsOf, HasPlaces, IsLater}
use Rattle.xs_grow.specs.Making.{stands_at, IsLabel}
use Rattle.xs_grow.proofs.ListLemmas.{all_none, all_same}

-- candidates by the items that are there are candidates where more items are
module _ (g : Grammar) (w : List ℕ) (has more : ℕ → Place → ℕ → Type 0) (also : (j : ℕ) (c : Place) (i : ℕ) → has j c i → more j c i) where
  over_also : (item : GItem) (m j : ℕ) → ItemOver g w has item m j → ItemOver g w more item m j
  over_also (Fixed v) m j h = h
  over_also (Term t s) m j h = h
  over_also (Skip k) m j h = h
  over_also (Non n s) m j (q, of, ended) = (q, of, also j (at_dot q (length (items g q))) m ended)

  whole_also : (c : Candidate) → WholeCandidate g has c → WholeCandidate g more c
  whole_also c h = record { non = h.non; rule = h.rule; start = h.start; end = h.end; is = h.is; of = h.of; ended = also h.end (at_dot h.rule (length (items g h.rule))) h.start h.ended }

  front_also : (c : Candidate) → FrontCandidate g w has c → FrontCandidate g w more c
  front_also c h = record { rule = h.rule; dot = h.dot; start = h.start; end = h.end; split = h.split; item = h.item; is = h.is; later = h.later; searched = h.searched; at = h.at; before = also h.split (at_dot h.rule h.dot) h.start h.before; last = over_also h.item h.split h.end h.last }

module _ (g : Grammar) (w : List ℕ) (sets : List (List Item)) (chart : IsChartOf g w sets) where
  abbrev has : ℕ → Place → ℕ → Type 0
  has = HasPlace g sets

  pub places : HasPlaces g sets
  places = record {
    placed = λ j it c. let s = (chart.stand j it).0 c in slice_get_within (all_places g) it.state s.0 s.1;
    different = chart.different;
  }

  -- the item's place, by its number
  item_has : (j k : ℕ) (it : Item) (c : Place) → slice_get (set_at sets j) k ≡ Some it → IsNumber g it.state c → has j c it.origin
  item_has j k it c at number = (it.state, number, contains_of (set_at sets j) k it at)

  item_rule : (j k : ℕ) (it : Item) (c : Place) → slice_get (set_at sets j) k ≡ Some it → IsNumber g it.state c → c.rule < length g.rules
  item_rule j k it c at number =
      let s = (chart.stand j it).0 (contains_of (set_at sets j) k it at) in
      let same = one_place g it.state s.0 c s.1 number in
      subst (λ (z : Place). z.rule < length g.rules) same s.2.1.0

  set_within : (j : ℕ) (c : Place) (i : ℕ) → has j c i → j < length sets
  set_within j c i h = let st = chart_all_stand g w sets chart c i j h in let n = chart.counted in omega (arith, st.4)

  -- what holds of a place that is there holds of an item of the sets
  in_sets : (P : ℕ → Item → Candidate → Type 0) (c : Candidate) (j i : ℕ) (place : Place) (h : has j place i) → P j (record { state = h.0; origin = i }) c → InSets P sets (length sets) c
  in_sets P c j i place h holds =
      let it : Item = record { state = h.0; origin = i } in
      let at = get_of (set_at sets j) it h.2 in
      (j, set_within j place i h, (at.0, slice_get_within (set_at sets j) at.0 it at.1, it, at.1, holds))

  -- the items at the end of their rule
  pub wholes_marked : (candidates : List Candidate) → HasAllOf (InSets (WholeAt g) sets (length sets)) candidates → HasAllOf (WholeCandidate g has) candidates
  wholes_marked candidates all = all_same (InSets (WholeAt g) sets (length sets)) (WholeCandidate g has) candidates to from all
    where
      to : (c : Candidate) → InSets (WholeAt g) sets (length sets) c → WholeCandidate g has c
      to c (j, lt, (k, below, it, at, p)) =
          let end : at_dot p.place.rule (length (items g p.place.rule)) ≡ p.place = ap (λ n. at_dot p.place.rule n) (sym p.whole) ∙ as_dot p.place p.plain in
          record {
            non = (rule_of g p.place.rule).non;
            rule = p.place.rule;
            start = it.origin;
            end = j;
            is = p.is;
            of = (item_rule j k it p.place at p.numbered, refl);
            ended = subst (λ (z : Place). has j z it.origin) (sym end) (item_has j k it p.place at p.numbered);
          }

      from : (c : Candidate) → WholeCandidate g has c → InSets (WholeAt g) sets (length sets) c
      from c h =
          let is : c ≡ (key_at (Whole (rule_of g h.rule).non) h.start h.end, h.rule) = h.is ∙ ap (λ n. (key_at (Whole n) h.start h.end, h.rule)) (sym h.of.1) in
          in_sets (WholeAt g) c h.end h.start (at_dot h.rule (length (items g h.rule))) h.ended (record { place = at_dot h.rule (length (items g h.rule)); numbered = h.ended.1; plain = refl; whole = refl; is = is })

  module _ (wholes : List Candidate) (all : HasAllOf (WholeCandidate g has) wholes) (calls : List (Call × ℕ)) (called : AreCallsOf wholes calls) where
    none_whole : (n m : ℕ) → Whole n ≡ Whole m → n ≡ m
    none_whole n m e = cc

    ends_finished : (n m j : ℕ) → Contains calls (call_at n m, j) → IsFinished g has n m j
    ends_finished n m j c =
        let k = called.sound (call_at n m, j) c in
        let h = all.sound (key_at (Whole k.2) k.3 k.4, k.5) (contains_of wholes k.0 (key_at (Whole k.2) k.3 k.4, k.5) k.6) in
        let non : h.non ≡ n = sym (none_whole k.2 h.non (ap (λ (z : Candidate). z.0.what) h.is)) ∙ sym (ap (λ (z : Call × ℕ). z.0.non) k.7) in
        let start : h.start ≡ m = sym (ap (λ (z : Candidate). z.0.start) h.is) ∙ sym (ap (λ (z : Call × ℕ). z.0.start) k.7) in
        let end : h.end ≡ j = sym (ap (λ (z : Candidate). z.0.end) h.is) ∙ sym (ap (λ (z : Call × ℕ). z.1) k.7) in
        subst (λ z. IsFinished g has z m j) non (subst (λ z. IsFinished g has h.non z j) start (subst (λ z. IsFinished g has h.non h.start z) end (h.rule, h.of, h.ended)))

    finished_ends : (n m j : ℕ) → IsFinished g has n m j → Contains calls (call_at n m, j)
    finished_ends n m j (q, of, ended) =
        let candidate : WholeCandidate g has (key_at (Whole n) m j, q) = record { non = n; rule = q; start = m; end = j; is = refl; of = of; ended = ended } in
        let at = get_of wholes (key_at (Whole n) m j, q) (all.complete (key_at (Whole n) m j, q) candidate) in
        called.complete (call_at n m, j) (at.0, slice_get_within wholes at.0 (key_at (Whole n) m j, q) at.1, n, m, j, q, at.1, refl)

    -- where an item ends
    ends_over : (item : GItem) (m j : ℕ) → EndsAt g w calls item m j → ItemOver g w has item m j
    ends_over (Fixed v) m j h = h
    ends_over (Term t s) m j h = h
    ends_over (Skip k) m j h = h
    ends_over (Non n s) m j h = ends_finished n m j h

    over_ends : (item : GItem) (m j : ℕ) → ItemOver g w has item m j → EndsAt g w calls item m j
    over_ends (Fixed v) m j h = h
    over_ends (Term t s) m j h = h
    over_ends (Skip k) m j h = h
    over_ends (Non n s) m j h = finished_ends n m j h

    -- the items before an item of their rule
    pub fronts_marked : (candidates : List Candidate) → HasAllOf (InSets (FrontFrom g w calls) sets (length sets)) candidates → HasAllOf (FrontCandidate g w has) candidates
    fronts_marked candidates fronts = all_same (InSets (FrontFrom g w calls) sets (length sets)) (FrontCandidate g w has) candidates to from fronts
      where
        to : (c : Candidate) → InSets (FrontFrom g w calls) sets (length sets) c → FrontCandidate g w has c
        to c (j, lt, (k, below, it, at, p)) =
            let before = subst (λ (z : Place). has j z it.origin) (sym (as_dot p.place p.plain)) (item_has j k it p.place at p.numbered) in
            record { rule = p.place.rule; dot = p.place.dot; start = it.origin; end = p.end; split = j; item = p.item; is = p.is; later = p.later; searched = p.searched; at = p.at; before = before; last = ends_over p.item j p.end p.last }

        from : (c : Candidate) → FrontCandidate g w has c → InSets (FrontFrom g w calls) sets (length sets) c
        from c h =
            let last = over_ends h.item h.split h.end h.last in
            in_sets (FrontFrom g w calls) c h.split h.start (at_dot h.rule h.dot) h.before (record { place = at_dot h.rule h.dot; numbered = h.before.1; plain = refl; item = h.item; later = h.later; searched = h.searched; at = h.at; end = h.end; last = last; is = h.is })

  -- by what stands
  stand : (j : ℕ) (c : Place) (i : ℕ) → has j c i → stands_at g w j c i
  stand j c i h = chart_all_stand g w sets chart c i j h

  have : (j : ℕ) (c : Place) (i : ℕ) → stands_at g w j c i → has j c i
  have j c i h = chart_has_all g w sets chart c i j h

  pub wholes_stand : (marks : List Candidate) → HasAllOf (InSets (WholeAt g) sets (length sets)) marks → HasAllOf (WholeCandidate g (stands_at g w)) marks
  wholes_stand marks all = all_same (WholeCandidate g has) (WholeCandidate g (stands_at g w)) marks (whole_also g w has (stands_at g w) stand) (whole_also g w (stands_at g w) has have) (wholes_marked marks all)

  pub fronts_stand : (wholes : List Candidate) → HasAllOf (WholeCandidate g (stands_at g w)) wholes → (calls : List (Call × ℕ)) → AreCallsOf wholes calls → (marks : List Candidate) → HasAllOf (InSets (FrontFrom g w calls) sets (length sets)) marks → HasAllOf (FrontCandidate g w (stands_at g w)) marks
  fronts_stand wholes all calls called marks fronts =
      let charted = all_same (WholeCandidate g (stands_at g w)) (WholeCandidate g has) wholes (whole_also g w (stands_at g w) has have) (whole_also g w has (stands_at g w) stand) all in
      all_same (FrontCandidate g w has) (FrontCandidate g w (stands_at g w)) marks (front_also g w has (stands_at g w) stand) (front_also g w (stands_at g w) has have) (fronts_marked wholes charted calls called marks fronts)

-- a document of the language has the label of its start
pub start_label : (g : Grammar) (w : List ℕ) → InLang g w → IsLabel g w (key_at (Whole g.start) 0 (length w))
start_label g w in_lang = let e = whole_of g w in_lang in (e.0, e.1, e.2)

-- where no rule has a later item that is searched, there are no such candidates
pub no_fronts : (g : Grammar) (w : List ℕ) (marks : List Candidate) → marks ≡ [] → ((p n : ℕ) → p < length g.rules → IsLater (items g p) n → ⊥) → HasAllOf (FrontCandidate g w (stands_at g w)) marks
no_fronts g w marks e none = subst (λ z. HasAllOf (FrontCandidate g w (stands_at g w)) z) (sym e) (all_none (FrontCandidate g w (stands_at g w)) (λ c h. none h.rule h.dot h.before.1.0 (h.item, h.at, h.later, h.searched)))
