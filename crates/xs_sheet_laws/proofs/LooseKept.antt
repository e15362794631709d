-- Components and loose words of a grammar with other terminals and ignorables.
use Rattle.std.proofs.Common.{ℕ, List}
use Rattle.xs_gram.specs.declared.parts.GItem.{GItem}
use Rattle.xs_gram.specs.declared.parts.GItem.TheVariants.{Fixed, Term, Non, Skip}
use Rattle.xs_gram.specs.declared.parts.Terminal.{Terminal}
use Rattle.xs_gram.specs.declared.parts.Ignorable.{Ignorable}
use Rattle.xs_gram.specs.Grammar.{Grammar}
use Rattle.xs_gram.specs.Loose.{Spot, Reaches, here, onward, AreOne, IsMember, LooseItem, loose_fixed, loose_term, loose_skip, loose_non, IsLoose, loose_none, loose_then, loose_group, Step, begins, passes, encloses, calls, ends, returns, Walk, stays, goes}
use Rattle.xs_gram.specs.Suspects.{IsVertical, IsHorizontal}
use Rattle.xs_sheet_laws.proofs.Other.{with_parts}
use Rattle.xs_sheet_laws.proofs.Kept.{KeepsWords}

-- components go by rules and fences alone
module _ (g : Grammar) (ts : List Terminal) (ks : List Ignorable) where
  reaches : {m n : ℕ} → Reaches g m n → Reaches (with_parts g ts ks) m n
  reaches here = here
  reaches (onward {m = m} {n = n} u r) = onward {n = n} (record { rule = u.rule; dot = u.dot; slot = u.slot; of = u.of; item = u.item }) (reaches r)

  pub one : (m n : ℕ) → AreOne g m n → AreOne (with_parts g ts ks) m n
  one m n o = (reaches o.0, reaches o.1)

  pub member : (c : ℕ) (i : GItem) → IsMember g c i → IsMember (with_parts g ts ks) c i
  member c (Fixed f) h = h
  member c (Term t s) h = h
  member c (Non n s) h = one c n h
  member c (Skip k) h = h

module _ (g : Grammar) (ts : List Terminal) (ks : List Ignorable) where
  pub one_back : (m n : ℕ) → AreOne (with_parts g ts ks) m n → AreOne g m n
  one_back m n o = one (with_parts g ts ks) g.terms g.skips m n o

  pub member_back : (c : ℕ) (i : GItem) → IsMember (with_parts g ts ks) c i → IsMember g c i
  member_back c i h = member (with_parts g ts ks) g.terms g.skips c i h

  mutual
    item_kept : {i : GItem} {w : List ℕ} → KeepsWords g (with_parts g ts ks) → LooseItem g i w → LooseItem (with_parts g ts ks) i w
    item_kept keeps loose_fixed = loose_fixed
    item_kept keeps (loose_term {t = t} {w = w} h) = loose_term (keeps.terms t w h)
    item_kept keeps (loose_skip {k = k} {w = w} h) = loose_skip (keeps.skips k w h)
    item_kept keeps (loose_non h) = loose_non (walk_kept keeps h)

    pub loose_kept : {is : List GItem} {w : List ℕ} → KeepsWords g (with_parts g ts ks) → IsLoose g is w → IsLoose (with_parts g ts ks) is w
    loose_kept keeps loose_none = loose_none
    loose_kept keeps (loose_then p h r e) = loose_then p (item_kept keeps h) (loose_kept keeps r) e
    loose_kept keeps (loose_group f i r e is) = loose_group f (loose_kept keeps i) (loose_kept keeps r) e is

    step_kept : {c : ℕ} {x y : Spot} {w : List ℕ} → KeepsWords g (with_parts g ts ks) → Step g c x w y → Step (with_parts g ts ks) c x w y
    step_kept keeps (begins {c = c} {m = m} of a) = begins of (one g ts ks c m a)
    step_kept keeps (passes {c = c} {m = m} {i = i} of a there apart l) = passes {m = m} {i = i} of (one g ts ks c m a) there (λ h. apart (member_back c i h)) (item_kept keeps l)
    step_kept keeps (encloses {c = c} {m = m} of a there i e) = encloses {m = m} of (one g ts ks c m a) there (loose_kept keeps i) e
    step_kept keeps (calls {c = c} {m = m} {n = n} {s = s} of a there b) = calls {m = m} {n = n} {s = s} of (one g ts ks c m a) there (one g ts ks c n b)
    step_kept keeps (ends {c = c} {m = m} of a e) = ends of (one g ts ks c m a) e
    step_kept keeps (returns {c = c} {m = m} {n = n} {s = s} of a there b) = returns {m = m} {n = n} {s = s} of (one g ts ks c m a) there (one g ts ks c n b)

    walk_kept : {c : ℕ} {x y : Spot} {w : List ℕ} → KeepsWords g (with_parts g ts ks) → Walk g c x w y → Walk (with_parts g ts ks) c x w y
    walk_kept keeps stays = stays
    walk_kept keeps (goes s t e) = goes (step_kept keeps s) (walk_kept keeps t) e

  pub vertical : KeepsWords g (with_parts g ts ks) → (p q : ℕ) (w : List ℕ) → IsVertical g p q w → IsVertical (with_parts g ts ks) p q w
  vertical keeps p q w v = record {
    non = v.non;
    first = v.first;
    second = v.second;
    less = v.less;
    loose_first = loose_kept keeps v.loose_first;
    loose_second = loose_kept keeps v.loose_second;
  }

  pub horizontal : KeepsWords g (with_parts g ts ks) → (p c : ℕ) (x a y : List ℕ) → IsHorizontal g p c x a y → IsHorizontal (with_parts g ts ks) p c x a y
  horizontal keeps p c x a y h = record {
    rule = h.rule;
    low = h.low;
    high = h.high;
    front = h.front;
    rest = h.rest;
    cut = h.cut;
    overlap = record {
      some = h.overlap.some;
      short_front = loose_kept keeps h.overlap.short_front;
      long_front = loose_kept keeps h.overlap.long_front;
      short_rest = loose_kept keeps h.overlap.short_rest;
      long_rest = loose_kept keeps h.overlap.long_rest;
    };
  }
