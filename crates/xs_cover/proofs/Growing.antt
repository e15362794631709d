-- Rows that are added to a forest.
use Rattle.std.proofs.Common.{◌≡◌, ◌⊎◌, inl, inr, ℕ, zero, suc, List, [], ◌∷◌, ◌++◌, length, refl, sym, subst, ◌∙◌, ap, arith, Some, None, slice_get, MatchOption}
use Rattle.std.specs.declared.option.Option.{Option}
use Rattle.std.proofs.lemmas.Option.{same_Some, none-some, slice_get_within}
use Rattle.xs_forest.specs.declared.row.Alt.{Alt}
use Rattle.xs_forest.specs.Rows.{Rows, HasLabel, IsEarlier}
use Rattle.xs_gram.specs.declared.parts.GItem.{GItem}
use Rattle.xs_gram.specs.declared.parts.GItem.TheVariants.{Fixed, Term, Non, Skip}
use Rattle.xs_gram.specs.Grammar.{Grammar, items}
use Rattle.xs_cover.specs.declared.pick.Pick.{Pick}
use Rattle.xs_cover.specs.declared.pick.Pick.TheVariants.{Whole, Front}
use Rattle.xs_cover.specs.Picks.{HasRow, IsRowOf, IsLeft, IsRight, IsPick, HasPassed, IsAdded}
use Rattle.xs_cover.proofs.Knowing.{KeepsKnown, rule_kept, items_known}

-- elements of a list that goes on
pub get_on : {X : Type 0} (xs ys : List X) (k : ℕ) (x : X) → slice_get xs k ≡ Some x → slice_get (xs ++ ys) k ≡ Some x
get_on [] ys k x e = absurd (none-some x e)
get_on (y ∷ xs) ys zero x e = e
get_on (y ∷ xs) ys (suc k) x e = get_on xs ys k x e

pub get_last : {X : Type 0} (xs : List X) (x : X) → slice_get (xs ++ x ∷ []) (length xs) ≡ Some x
get_last [] x = refl
get_last (y ∷ xs) x = get_last xs x

pub get_new : {X : Type 0} (xs : List X) (x : X) (k : ℕ) (y : X) → slice_get (xs ++ x ∷ []) k ≡ Some y → (slice_get xs k ≡ Some y) ⊎ (x ≡ y)
get_new [] x zero y e = inr (same_Some x y e)
get_new [] x (suc k) y e = absurd (none-some y e)
get_new (z ∷ xs) x zero y e = inl e
get_new (z ∷ xs) x (suc k) y e = get_new xs x k y e

-- each row stays
abbrev pub HaveStayed : Rows Pick → Rows Pick → Type 0
HaveStayed old new = (k : ℕ) (label : Pick) → HasLabel old k label → HasLabel new k label

pub has_on : (old new : Rows Pick) (label : Pick) → HaveStayed old new → HasRow old label → HasRow new label
has_on old new label stayed has = (has.0, stayed has.0 label has.1)

row_of_on : (old new : Rows Pick) (label : Pick) (o : Option ℕ) → HaveStayed old new → IsRowOf old label o → IsRowOf new label o
row_of_on old new label o stayed is = (is.0, stayed is.0 label is.1, is.2)

left_on : (old new : Rows Pick) (rule dot : ℕ) (o : Option ℕ) → HaveStayed old new → IsLeft old rule dot o → IsLeft new rule dot o
left_on old new rule dot o stayed (inl none) = inl none
left_on old new rule dot o stayed (inr some) = inr (some.0, row_of_on old new (Front rule dot) o stayed some.1)

right_on : (old new : Rows Pick) (item : GItem) (o : Option ℕ) → HaveStayed old new → IsRight old item o → IsRight new item o
right_on old new (Fixed f) o stayed is = is
right_on old new (Term t s) o stayed is = is
right_on old new (Non n s) o stayed is = row_of_on old new (Whole n) o stayed is
right_on old new (Skip k) o stayed is = is

pub pick_on : (g h : Grammar) (terms nons : List ℕ) (old new : Rows Pick) (label : Pick) (alts : List Alt) → HaveStayed old new → IsPick g h terms nons old label alts → IsPick g h terms nons new label alts
pick_on g h terms nons old new (Whole n) alts stayed is = record {
  rule = is.rule;
  left = is.left;
  alts_are = is.alts_are;
  there = is.there;
  of = is.of;
  known = is.known;
  cost = is.cost;
  is_left = left_on old new is.rule (length (items g is.rule)) is.left stayed is.is_left;
}
pick_on g h terms nons old new (Front rule dot) alts stayed is = record {
  before = is.before;
  item = is.item;
  left = is.left;
  right = is.right;
  dot_is = is.dot_is;
  item_is = is.item_is;
  alts_are = is.alts_are;
  is_left = left_on old new rule is.before is.left stayed is.is_left;
  is_right = right_on old new is.item is.right stayed is.is_right;
}

-- more is known
pub pick_kept : (g h : Grammar) (terms nons more : List ℕ) (rows : Rows Pick) (label : Pick) (alts : List Alt) → KeepsKnown nons more → IsPick g h terms nons rows label alts → IsPick g h terms more rows label alts
pick_kept g h terms nons more rows (Whole n) alts kept is = record {
  rule = is.rule;
  left = is.left;
  alts_are = is.alts_are;
  there = is.there;
  of = is.of;
  known = omega (arith, is.known, kept n is.known);
  cost = rule_kept g h terms nons more is.rule kept (λ k m s e. items_known g h terms nons is.rule k m s (omega (arith, is.cost, is.known)) e) ∙ is.cost ∙ sym (kept n is.known);
  is_left = is.is_left;
}
pick_kept g h terms nons more rows (Front rule dot) alts kept is = is

-- what is added stands there, and the others stay
pub added_stays : (old new : Rows Pick) (label : Pick) (alt : Alt) → IsAdded old label alt new → HaveStayed old new
added_stays old new label alt (inl more) k l has = (has.0, ap (λ r. slice_get r k) more ∙ get_on old ((label, alt ∷ []) ∷ []) k (l, has.0) has.1)
added_stays old new label alt (inr same) k l has = (has.0, ap (λ r. slice_get r k) same.0 ∙ has.1)

pub added_there : (old new : Rows Pick) (label : Pick) (alt : Alt) → IsAdded old label alt new → HasRow new label
added_there old new label alt (inl more) = (length old, (alt ∷ [], ap (λ r. slice_get r (length old)) more ∙ get_last old (label, alt ∷ [])))
added_there old new label alt (inr same) = (same.1.0, (same.1.1.0, ap (λ r. slice_get r same.1.0) same.0 ∙ same.1.1.1))

pub picks_added : (g h : Grammar) (terms nons : List ℕ) (old new : Rows Pick) (label : Pick) (alt : Alt) → IsAdded old label alt new → ((k : ℕ) (l : Pick) (alts : List Alt) → slice_get old k ≡ Some (l, alts) → IsPick g h terms nons old l alts) → IsPick g h terms nons old label (alt ∷ [])
    → (k : ℕ) (l : Pick) (alts : List Alt) → slice_get new k ≡ Some (l, alts) → IsPick g h terms nons new l alts
picks_added g h terms nons old new label alt added known is k l alts at_k = pick_on g h terms nons old new l alts (added_stays old new label alt added) (by added)
  where
    by : IsAdded old label alt new → IsPick g h terms nons old l alts
    by (inr same) = known k l alts (ap (λ r. slice_get r k) (sym same.0) ∙ at_k)
    by (inl more) = elim (get_new old (label, alt ∷ []) k (l, alts) (ap (λ r. slice_get r k) (sym more) ∙ at_k)) [
      | inl before ↦ known k l alts before
      | inr here ↦ subst (λ m. IsPick g h terms nons old m alts) (ap (λ (q : Pick × List Alt). q.0) here) (subst (λ a. IsPick g h terms nons old label a) (ap (λ (q : Pick × List Alt). q.1) here) is)
    ]

-- what was passed stays so
pub passed_on : (g : Grammar) (nons more : List ℕ) (old new : Rows Pick) (rule dot : ℕ) → KeepsKnown nons more → HaveStayed old new → HasPassed g nons old rule dot → HasPassed g more new rule dot
passed_on g nons more old new rule dot kept stayed past = record {
  within = past.within;
  known = λ n m s before item. let known = past.known n m s before item in omega (arith, known, kept m known);
  front = λ some. has_on old new (Front rule dot) stayed (past.front some);
}

-- the number of a row that stands there is below their number
pub row_earlier : (rows : Rows Pick) (label : Pick) (o : Option ℕ) → IsRowOf rows label o → IsEarlier o (length rows)
row_earlier rows label o is = subst (λ p. IsEarlier p (length rows)) (sym is.2) (slice_get_within rows is.0 (label, is.1.0) is.1.1)

pub left_earlier : (rows : Rows Pick) (rule dot : ℕ) (o : Option ℕ) → IsLeft rows rule dot o → IsEarlier o (length rows)
left_earlier rows rule dot o (inl none) = subst (λ p. IsEarlier p (length rows)) (sym none.1) tt
left_earlier rows rule dot o (inr some) = row_earlier rows (Front rule dot) o some.1

pub right_earlier : (rows : Rows Pick) (item : GItem) (o : Option ℕ) → IsRight rows item o → IsEarlier o (length rows)
right_earlier rows (Fixed f) o is = subst (λ p. IsEarlier p (length rows)) (sym is) tt
right_earlier rows (Term t s) o is = subst (λ p. IsEarlier p (length rows)) (sym is) tt
right_earlier rows (Non n s) o is = row_earlier rows (Whole n) o is
right_earlier rows (Skip k) o is = subst (λ p. IsEarlier p (length rows)) (sym is) tt

-- what a look-up of a label finds that stands there
pub found_row : (rows : Rows Pick) (label : Pick) (o : Option ℕ) → HasRow rows label → MatchOption o ((at : ℕ) → HasLabel rows at label → ⊥) (λ at. HasLabel rows at label) → IsRowOf rows label o
found_row rows label None has none = absurd (none has.0 has.1)
found_row rows label (Some k) has found = (k, found, refl)

pub found_right : (rows : Rows Pick) (n s : ℕ) (item : GItem) (o : Option ℕ) → item ≡ Non n s → IsRowOf rows (Whole n) o → IsRight rows item o
found_right rows n s item o is row = subst (λ i. IsRight rows i o) (sym is) row
