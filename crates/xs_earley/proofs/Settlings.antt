-- An item is settled by what is added for it.
use Rattle.std.proofs.Common.{◌≡◌, ◌≢◌, ℕ, ◌<◌, ◌≤◌, List, length, false, Some, refl, sym, ◌∙◌, ap, subst, arith, inl, inr}
use Rattle.std.specs.Prelude.{Contains, slice_get, IsTrue}
use Rattle.std.proofs.lemmas.Bool.{false≢true}
use Rattle.xs_chart.specs.declared.item.Item.{Item}
use Rattle.xs_gram.specs.declared.parts.GItem.{GItem}
use Rattle.xs_gram.specs.declared.parts.GItem.TheVariants.{Fixed, Term, Non, Skip}
use Rattle.xs_gram.specs.declared.places.Place.{Place}
use Rattle.xs_gram.specs.Grammar.{Grammar, ItemAt}
use Rattle.xs_gram.specs.Sound.{IsBuilt}
use Rattle.xs_gram.specs.Chart.{Stands}
use Rattle.xs_gram.specs.Places.{at_dot, all_places}
use Rattle.xs_chart_laws.specs.Steps.{next_of, IsBefore, IsAtEnd, IsPassed, IsSettled}
use Rattle.xs_chart_laws.specs.Charts.{IsNumber, set_at, HasPlace, AllItemsStand}
use Rattle.xs_chart_laws.proofs.Words.{get_lt}
use Rattle.xs_chart_laws.proofs.Charts.{chart_stands}
use Rattle.xs_chart_laws.proofs.Steps.{passed_stands, called_stands, completed_stands}
use Rattle.xs_chart_laws.proofs.Settling.{has_place_more, same_non, one_of_place, not_at_end}
use Rattle.xs_earley.specs.declared.rows.Row.{Row}
use Rattle.xs_earley.specs.declared.rows.Stand.{Stand}
use Rattle.xs_earley.specs.declared.rows.Stand.TheVariants.{AtEnd, AtNon, AtWord, AtTerm, AtSkip}
use Rattle.xs_earley.specs.Adding.{IsOf, Adds, Is, Passes, Completes, Calls, Leads}
use Rattle.xs_earley.specs.declared.facts.Facts.{Facts}
use Rattle.xs_earley.specs.Facts.{row_at, IsStand, IsRow, AreFacts}
use Rattle.xs_earley.specs.Growing.{Standing, Grown, IsSettledAt}
use Rattle.xs_earley.proofs.Additions.{puts_weaker, puts_kept, adds_none, adds_same}
use Rattle.xs_earley.proofs.Growths.{grown_then, put_item}
use Rattle.xs_class.proofs.Lists.{some_same}

-- where each place and origin with the property stands, items of those that are added stand
pub adds_grown : (g : Grammar) (w : List ℕ) (at : ℕ) (P : Place → ℕ → Type 0) (a b : List (List Item)) → ((c : Place) (i : ℕ) → P c i → Stands g w c i at) → Adds g at P a b → Grown g w at a b
adds_grown g w at P a b stand adds = puts_weaker at (IsOf g P) (Standing g w at) a b (λ item h. (h.0, h.1, stand h.0 item.origin h.2)) adds.puts

fixed_non : (f : List ℕ) (n s : ℕ) → Fixed f ≡ Non n s → ⊥
fixed_non f n s e = cc

term_non : (t a n s : ℕ) → Term t a ≡ Non n s → ⊥
term_non t a n s e = cc

skip_non : (k n s : ℕ) → Skip k ≡ Non n s → ⊥
skip_non k n s e = cc

-- a place before a nonterminal has this row
pub before_stand : (g : Grammar) (letters : List ℕ) (c : Place) (stand : Stand) (non : ℕ) → IsStand g letters c stand → IsBefore g c non → stand ≡ AtNon non
before_stand g letters c (AtEnd m) non end before = absurd (not_at_end g c (Non non before.1) m before.2 end)
before_stand g letters c (AtNon m) non at before = ap AtNon (same_non m non at.1 before.1 (one_of_place g c (Non m at.1) (Non non before.1) at.2 before.2))
before_stand g letters c (AtWord a b) non h before = absurd (fixed_non h.0 non before.1 (one_of_place g c (Fixed h.0) (Non non before.1) h.2 before.2))
before_stand g letters c (AtTerm t) non h before = absurd (term_non t h.0 non before.1 (one_of_place g c (Term t h.0) (Non non before.1) h.1 before.2))
before_stand g letters c (AtSkip k) non h before = absurd (skip_non k non before.1 (one_of_place g c (Skip k) (Non non before.1) h before.2))

-- and so has one at the end of a rule
pub end_stand : (g : Grammar) (letters : List ℕ) (c : Place) (stand : Stand) (non : ℕ) → IsStand g letters c stand → IsAtEnd g c non → stand ≡ AtEnd non
end_stand g letters c (AtEnd m) non end other = ap AtEnd (sym end.2.1 ∙ other.2.1)
end_stand g letters c (AtNon m) non h end = absurd (not_at_end g c (Non m h.1) non h.2 end)
end_stand g letters c (AtWord a b) non h end = absurd (not_at_end g c (Fixed h.0) non h.2 end)
end_stand g letters c (AtTerm t) non h end = absurd (not_at_end g c (Term t h.0) non h.1 end)
end_stand g letters c (AtSkip k) non h end = absurd (not_at_end g c (Skip k) non h end)

module _ (g : Grammar) (w : List ℕ) (built : IsBuilt g) (letters : List ℕ) (at : ℕ) (place : Place) (o : ℕ) (st : Stands g w place o at) (row : Row) (is : IsRow g letters place row) (a b c : List (List Item)) (all : AllItemsStand g w a) (passes : Adds g at (Passes g place o) a b) (leads : Adds g at (Leads g b at o row.stand) b c) where
  passed_grown : Grown g w at a b
  passed_grown = adds_grown g w at (Passes g place o) a b stand passes
    where
      stand : (d : Place) (i : ℕ) → Passes g place o d i → Stands g w d i at
      stand d i (p, same) = subst (λ e. Stands g w e i at) (sym same.0) (subst (λ k. Stands g w (next_of place) k at) (sym same.1) (passed_stands g w built place o at st p))

  -- what stands in an earlier set stood before
  earlier : (d : Place) (i : ℕ) → o < at → HasPlace g b o d i → HasPlace g a o d i
  earlier d i lt h = let ne : o ≢ at = omega arith in has_place_more g b a o d i (λ item. subst (λ (l : List Item). Contains l item) (passes.puts.others o ne)) h

  leads_stand : (stand : Stand) → IsStand g letters place stand → (d : Place) (i : ℕ) → Leads g b at o stand d i → Stands g w d i at
  leads_stand (AtEnd non) end d i (lt, (e, has, before, same)) =
      subst (λ x. Stands g w x i at) (sym same) (completed_stands g w built place o at non e i st end (chart_stands g w a all e i o (earlier e i lt has)) before)
  leads_stand (AtNon non) h d i (q, rule, same) =
      subst (λ e. Stands g w e i at) (sym same.0) (subst (λ k. Stands g w (at_dot q 0) k at) (sym same.1) (called_stands g w built place o at non q st h rule))
  leads_stand (AtWord x y) h d i none = absurd none
  leads_stand (AtTerm t) h d i none = absurd none
  leads_stand (AtSkip k) h d i none = absurd none

  -- the set has grown by what stands
  pub row_grown : Grown g w at a c
  row_grown = grown_then g w at a b c passed_grown (adds_grown g w at (Leads g b at o row.stand) b c (leads_stand row.stand is.stand) leads)

  -- and the place is settled
  pub row_settled : IsSettled g (HasPlace g c) at place o
  row_settled = record {
    passed = λ p. has_place_more g b c at (next_of place) o (puts_kept at (IsOf g (Leads g b at o row.stand)) b c leads.puts at) (passes.there (next_of place) o (p, (refl, refl)));
    called = λ non q before rule. leads.there (at_dot q 0) at (subst (λ s. Leads g b at o s (at_dot q 0) at) (sym (before_stand g letters place row.stand non is.stand before)) (q, rule, (refl, refl)));
    completed = λ non d i end lt has before. leads.there (next_of d) i (subst (λ s. Leads g b at o s (next_of d) i) (sym (end_stand g letters place row.stand non is.stand end)) (lt, (d, back d i lt has, before, refl)));
  }
    where
      back : (d : Place) (i : ℕ) → o < at → HasPlace g c o d i → HasPlace g b o d i
      back d i lt h = let ne : o ≢ at = omega arith in has_place_more g c b o d i (λ item. subst (λ (l : List Item). Contains l item) (leads.puts.others o ne)) h

-- item k of set `at` is settled by its place
pub settled_by_place : (g : Grammar) (w : List ℕ) (old new : List (List Item)) (at k : ℕ) (item : Item) → Grown g w at old new → k < length (set_at old at) → slice_get (set_at old at) k ≡ Some item → ((c : Place) → IsNumber g item.state c → IsSettled g (HasPlace g new) at c item.origin) → IsSettledAt g new at k
settled_by_place g w old new at k item grown lt e h x c at_k num =
    let was = put_item at (Standing g w at) old new grown k x lt at_k in
    let one : x ≡ item = some_same (slice_get (set_at old at) k) x item was e in
    subst (λ (y : Item). IsSettled g (HasPlace g new) at c y.origin) (sym one) (h c (subst (λ (y : Item). IsNumber g y.state c) one num))

-- what stands at a place leads to nothing more
pub leads_word : (g : Grammar) (at o : ℕ) (stand : Stand) (a : List (List Item)) (x y : ℕ) → stand ≡ AtWord x y → Adds g at (Leads g a at o stand) a a
leads_word g at o stand a x y e = subst (λ s. Adds g at (Leads g a at o s) a a) (sym e) (adds_none g at (Leads g a at o (AtWord x y)) a (λ c i h. absurd h))

pub leads_term : (g : Grammar) (at o : ℕ) (stand : Stand) (a : List (List Item)) (t : ℕ) → stand ≡ AtTerm t → Adds g at (Leads g a at o stand) a a
leads_term g at o stand a t e = subst (λ s. Adds g at (Leads g a at o s) a a) (sym e) (adds_none g at (Leads g a at o (AtTerm t)) a (λ c i h. absurd h))

pub leads_skip : (g : Grammar) (at o : ℕ) (stand : Stand) (a : List (List Item)) (k : ℕ) → stand ≡ AtSkip k → Adds g at (Leads g a at o stand) a a
leads_skip g at o stand a k e = subst (λ s. Adds g at (Leads g a at o s) a a) (sym e) (adds_none g at (Leads g a at o (AtSkip k)) a (λ c i h. absurd h))

pub leads_end : (g : Grammar) (at o : ℕ) (stand : Stand) (a b : List (List Item)) (n : ℕ) → stand ≡ AtEnd n → Adds g at (λ c i. (o < at) × Completes g a o n c i) a b → Adds g at (Leads g a at o stand) a b
leads_end g at o stand a b n e h = subst (λ s. Adds g at (Leads g a at o s) a b) (sym e) h

pub leads_non : (g : Grammar) (at o : ℕ) (stand : Stand) (a b : List (List Item)) (n : ℕ) → stand ≡ AtNon n → Adds g at (Calls g at n) a b → Adds g at (Leads g a at o stand) a b
leads_non g at o stand a b n e h = subst (λ s. Adds g at (Leads g a at o s) a b) (sym e) h

-- a rule that began in this set completes nothing
pub ends_none : (g : Grammar) (at o n : ℕ) (a : List (List Item)) → at ≤ o → Adds g at (λ c i. (o < at) × Completes g a o n c i) a a
ends_none g at o n a le = adds_none g at (λ c i. (o < at) × Completes g a o n c i) a (λ c i h. let lt = h.0 in omega (arith, lt, le))

pub ends_made : (g : Grammar) (at o n : ℕ) (a b : List (List Item)) → o < at → Adds g at (Completes g a o n) a b → Adds g at (λ c i. (o < at) × Completes g a o n c i) a b
ends_made g at o n a b lt adds = adds_same g at (Completes g a o n) (λ c i. (o < at) × Completes g a o n c i) a b (λ c i h. (lt, h)) (λ c i h. h.1) adds

-- what may be passed over has an item
passed_item : (g : Grammar) (c : Place) → IsPassed g c → (item : GItem) × ItemAt g c.rule c.dot item
passed_item g c (inl h) = (Non h.0 h.1.1, h.1.2)
passed_item g c (inr h) = (h.1.0, h.1.1)

pub passes_none : (g : Grammar) (letters : List ℕ) (at o : ℕ) (c : Place) (row : Row) (a : List (List Item)) → IsRow g letters c row → row.passes ≡ false → Adds g at (Passes g c o) a a
passes_none g letters at o c row a is e = adds_none g at (Passes g c o) a (λ d i h. absurd (false≢true (sym e ∙ is.passes.1 h.0)))

pub passes_made : (g : Grammar) (letters : List ℕ) (at o : ℕ) (c : Place) (row : Row) (a b : List (List Item)) → IsRow g letters c row → IsTrue row.passes → ((h : Grammar) (d : Place) → IsNumber h row.next d → Adds h at (Is d o) a b) → Adds g at (Passes g c o) a b
passes_made g letters at o c row a b is e put =
    let passed = is.passes.0 e in
    let item = passed_item g c passed in
    adds_same g at (Is (next_of c) o) (Passes g c o) a b (λ d i h. (passed, h)) (λ d i h. h.1) (put g (next_of c) (is.next item.0 item.1))

-- a nonterminal before which a place stands is one of the grammar's
pub non_there : (g : Grammar) (letters : List ℕ) (built : IsBuilt g) (c : Place) (stand : Stand) (n : ℕ) → IsStand g letters c stand → stand ≡ AtNon n → n < g.nons
non_there g letters built c stand n is e = let b = subst (λ s. IsStand g letters c s) e is in built.range.nons c.rule c.dot n b.1 b.2

-- the row of a state is that of its place
pub row_is : (g : Grammar) (f : Facts) → AreFacts g f → (state : ℕ) (c : Place) → IsNumber g state c → (row : Row) → row ≡ row_at f.rows.items state → IsRow g f.letters.items c row
row_is g f facts state c num row e = subst (λ r. IsRow g f.letters.items c r) (sym e) (facts.rows.each state c (get_lt (all_places g) state c num) num)

pub row_there : (g : Grammar) (f : Facts) → AreFacts g f → (state : ℕ) → state < length (all_places g) → state < length f.rows.items
row_there g f facts state lt = let e = facts.rows.counted in omega (arith, e, lt)
