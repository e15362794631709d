-- Rows of a forest of least trees, the rules that wait for rows, and those that are ready for one.
use Rattle.std.specs.Prelude.{◌≡◌, ◌⊎◌, ℕ, ◌+◌, ◌<◌, ◌≤◌, List, [], ◌∷◌, ◌++◌, length, None, Some, slice_get, slice_index_or, Contains}
use Rattle.std.specs.declared.option.Option.{Option}
use Rattle.std.specs.declared.cmp.Ordering.{Ordering}
use Rattle.std.specs.Ordering.{nat_cmp, ordering_then}
use Rattle.std.specs.BinaryHeap.{IsHeap, heap_items}
use Rattle.xs_forest.specs.declared.row.Alt.{Alt}
use Rattle.xs_forest.specs.Rows.{Rows, HasLabel}
use Rattle.xs_gram.specs.declared.parts.GItem.{GItem}
use Rattle.xs_gram.specs.declared.parts.GItem.TheVariants.{Fixed, Term, Non, Skip}
use Rattle.xs_gram.specs.Grammar.{Grammar, rule_of, items, ItemAt}
use Rattle.xs_gram.specs.Common.{Common}
use Rattle.xs_cover.specs.declared.pick.Pick.{Pick}
use Rattle.xs_cover.specs.declared.pick.Pick.TheVariants.{Whole, Front}
use Rattle.xs_cover.specs.declared.picks.Picks.{Picks}
use Rattle.xs_cover.specs.declared.picks.Waiter.{Waiter}
use Rattle.xs_cover.specs.Costs.{rule_cost}
use Rattle.xs_cover.specs.Prices.{costs_in, HaveTrees}
use Rattle.xs_cover.specs.Tables.{at}

-- some row has the label
abbrev pub HasRow : Rows Pick → Pick → Type 0
HasRow rows label = (k : ℕ) × HasLabel rows k label

-- the number of the row that has the label
abbrev pub IsRowOf : Rows Pick → Pick → Option ℕ → Type 0
IsRowOf rows label o = (k : ℕ) × HasLabel rows k label × (o ≡ Some k)

-- the row of a rule's first items, and none of no items
abbrev pub IsLeft : Rows Pick → ℕ → ℕ → Option ℕ → Type 0
IsLeft rows rule dot o = ((dot ≡ 0) × (o ≡ None)) ⊎ ((0 < dot) × IsRowOf rows (Front rule dot) o)

-- the row of an item that is a nonterminal, and none of another
abbrev pub IsRight : Rows Pick → GItem → Option ℕ → Type 0
IsRight rows (Fixed f) o = o ≡ None
IsRight rows (Term t s) o = o ≡ None
IsRight rows (Non n s) o = IsRowOf rows (Whole n) o
IsRight rows (Skip k) o = o ≡ None

-- the one alternative of a nonterminal: a rule of it, which costs what the nonterminal does
pub record IsWhole (g h : Grammar) (terms nons : List ℕ) (rows : Rows Pick) (n : ℕ) (alts : List Alt) : Type 0 where
  pub rule : ℕ
  pub left : Option ℕ
  pub alts_are : alts ≡ record { rule = rule; left = left; right = None } ∷ []
  pub there : rule < length g.rules
  pub of : (rule_of g rule).non ≡ n
  pub known : at nons n < 1000000000
  pub cost : rule_cost g h (costs_in terms nons []) rule ≡ at nons n
  pub is_left : IsLeft rows rule (length (items g rule)) left

-- the one alternative of a rule's first items: those before the last, and the last
pub record IsFront (g : Grammar) (rows : Rows Pick) (rule dot : ℕ) (alts : List Alt) : Type 0 where
  pub before : ℕ
  pub item : GItem
  pub left : Option ℕ
  pub right : Option ℕ
  pub dot_is : dot ≡ before + 1
  pub item_is : ItemAt g rule before item
  pub alts_are : alts ≡ record { rule = rule; left = left; right = right } ∷ []
  pub is_left : IsLeft rows rule before left
  pub is_right : IsRight rows item right

abbrev pub IsPick : Grammar → Grammar → List ℕ → List ℕ → Rows Pick → Pick → List Alt → Type 0
IsPick g h terms nons rows (Whole n) alts = IsWhole g h terms nons rows n alts
IsPick g h terms nons rows (Front rule dot) alts = IsFront g rows rule dot alts

-- Each row has the cheapest alternative alone, and each nonterminal that costs less than the bound has
-- a row.
pub record HaveRows (g h : Grammar) (terms nons : List ℕ) (rows : Rows Pick) : Type 0 where
  pub picks : (k : ℕ) (label : Pick) (alts : List Alt) → slice_get rows k ≡ Some (label, alts) → IsPick g h terms nons rows label alts
  pub wholes : (n : ℕ) → n < g.nons → at nons n < 1000000000 → HasRow rows (Whole n)

-- there are trees that cost what the tables say
pub record HaveSome (g h : Grammar) (terms nons : List ℕ) : Type 0 where
  pub trees : List Common
  pub numbers : List ℕ
  pub have : HaveTrees g h trees terms nons numbers

-- what stands before a place of a rule is known, and has a row
pub record HasPassed (g : Grammar) (nons : List ℕ) (rows : Rows Pick) (rule dot : ℕ) : Type 0 where
  pub within : dot ≤ length (items g rule)
  pub known : (n m s : ℕ) → n < dot → ItemAt g rule n (Non m s) → at nons m < 1000000000
  pub front : 0 < dot → HasRow rows (Front rule dot)

-- the rule waits for the nonterminal at one of its items
pub record IsWaiter (g : Grammar) (nons : List ℕ) (rows : Rows Pick) (n : ℕ) (w : Waiter) : Type 0 where
  pub there : w.rule < length g.rules
  pub slot : ℕ
  pub item : ItemAt g w.rule w.dot (Non n slot)
  pub past : HasPassed g nons rows w.rule w.dot

-- A rule with what is left of the bound when its cost is taken off: all its items are known, and no
-- nonterminal that is known costs more.
pub record IsReady (g h : Grammar) (terms nons : List ℕ) (rows : Rows Pick) (e : ℕ × ℕ) : Type 0 where
  pub there : e.1 < length g.rules
  pub cost : e.0 + rule_cost g h (costs_in terms nons []) e.1 ≡ 1000000000
  pub some : 0 < e.0
  pub dearest : (n : ℕ) → n < g.nons → at nons n < 1000000000 → at nons n + e.0 ≤ 1000000000
  pub past : HasPassed g nons rows e.1 (length (items g e.1))

abbrev pub waiters_at : List (List Waiter) → ℕ → List Waiter
waiters_at waits n = slice_index_or waits n []

-- the greatest first number comes first
abbrev pub by_left : ℕ × ℕ → ℕ × ℕ → Ordering
by_left x y = ordering_then (nat_cmp x.0 y.0) (nat_cmp x.1 y.1)

-- the rows, the rules that wait for each nonterminal, and the heap of those that are ready
pub record Holds (g h : Grammar) (terms nons : List ℕ) (rows : Rows Pick) (waits : List (List Waiter)) (ready : List (ℕ × ℕ)) : Type 0 where
  pub counted : length waits ≡ g.nons
  pub some : HaveSome g h terms nons
  pub have : HaveRows g h terms nons rows
  pub waiters : (n k : ℕ) (w : Waiter) → slice_get (waiters_at waits n) k ≡ Some w → IsWaiter g nons rows n w
  pub entries : (e : ℕ × ℕ) → Contains ready e → IsReady g h terms nons rows e
  pub ordered : IsHeap by_left ready

-- the rule waits for a nonterminal among its items that is not known
pub record Awaits (g : Grammar) (nons : List ℕ) (waits : List (List Waiter)) (rule : ℕ) : Type 0 where
  pub non : ℕ
  pub place : ℕ
  pub dot : ℕ
  pub slot : ℕ
  pub in_list : slice_get (waiters_at waits non) place ≡ Some (record { rule = rule; dot = dot })
  pub item : ItemAt g rule dot (Non non slot)
  pub unknown : 1000000000 ≤ at nons non

-- all items of the rule are known; it costs at least what its nonterminal does, or it is ready
pub record IsCounted (g h : Grammar) (terms nons : List ℕ) (ready : List (ℕ × ℕ)) (rule : ℕ) : Type 0 where
  pub known : (n m s : ℕ) → ItemAt g rule n (Non m s) → at nons m < 1000000000
  pub closed : (at nons (rule_of g rule).non ≤ rule_cost g h (costs_in terms nons []) rule) ⊎ ((left : ℕ) × Contains ready (left, rule))

abbrev pub IsSet : Grammar → Grammar → List ℕ → List ℕ → List (List Waiter) → List (ℕ × ℕ) → ℕ → Type 0
IsSet g h terms nons waits ready rule = Awaits g nons waits rule ⊎ IsCounted g h terms nons ready rule

-- the same of picks
abbrev pub ArePicks : Grammar → Grammar → Picks → Type 0
ArePicks g h s = Holds g h s.prices.terms.items s.prices.nons.items s.forest s.waiting.items (heap_items s.ready)

abbrev pub IsSetIn : Grammar → Grammar → Picks → ℕ → Type 0
IsSetIn g h s rule = IsSet g h s.prices.terms.items s.prices.nons.items s.waiting.items (heap_items s.ready) rule

abbrev pub HasPassedIn : Grammar → Picks → ℕ → ℕ → Type 0
HasPassedIn g s rule dot = HasPassed g s.prices.nons.items s.forest rule dot

-- costs stay, and whatever waits or is ready still does or is
pub record HaveGrown (old new : Picks) : Type 0 where
  pub prices : new.prices ≡ old.prices
  pub waiting : (n k : ℕ) (w : Waiter) → slice_get (waiters_at old.waiting.items n) k ≡ Some w → slice_get (waiters_at new.waiting.items n) k ≡ Some w
  pub ready : (e : ℕ × ℕ) → Contains (heap_items old.ready) e → Contains (heap_items new.ready) e

-- the known nonterminals cost no more than the rule
abbrev pub IsDear : Grammar → Grammar → Picks → ℕ → Type 0
IsDear g h s rule = (n : ℕ) → n < g.nons → at s.prices.nons.items n < 1000000000 → at s.prices.nons.items n ≤ rule_cost g h (costs_in s.prices.terms.items s.prices.nons.items []) rule

-- the item is no nonterminal that is not known
abbrev pub IsKnownItem : List ℕ → GItem → Type 0
IsKnownItem nons (Fixed f) = Unit {0}
IsKnownItem nons (Term t s) = Unit {0}
IsKnownItem nons (Non n s) = at nons n < 1000000000
IsKnownItem nons (Skip k) = Unit {0}

-- one more row, unless a row has the label
abbrev pub IsAdded : Rows Pick → Pick → Alt → Rows Pick → Type 0
IsAdded old label alt new = (new ≡ old ++ (label, alt ∷ []) ∷ []) ⊎ ((new ≡ old) × HasRow old label)

-- the entry comes first in a heap, and the others stay
pub record IsNext (old : List (ℕ × ℕ)) (e : ℕ × ℕ) (new : List (ℕ × ℕ)) : Type 0 where
  pub there : Contains old e
  pub others : (x : ℕ × ℕ) → Contains old x → (x ≡ e) ⊎ Contains new x
  pub kept : (x : ℕ × ℕ) → Contains new x → Contains old x
  pub greatest : (x : ℕ × ℕ) → Contains new x → x.0 ≤ e.0
  pub ordered : IsHeap by_left new

-- the rule is ready, and no other that is costs less
pub record IsFirst (g h : Grammar) (s : Picks) (left rule : ℕ) : Type 0 where
  pub entry : IsReady g h s.prices.terms.items s.prices.nons.items s.forest (left, rule)
  pub greatest : (x : ℕ × ℕ) → Contains (heap_items s.ready) x → x.0 ≤ left

-- the nonterminal is known, and none that is costs more
pub record IsDearest (g : Grammar) (s : Picks) (non : ℕ) : Type 0 where
  pub known : at s.prices.nons.items non < 1000000000
  pub most : (n : ℕ) → n < g.nons → at s.prices.nons.items n < 1000000000 → at s.prices.nons.items n ≤ at s.prices.nons.items non

-- the rule waits for the nonterminal, from a place of the list on
pub record WaitsFor (waits : List (List Waiter)) (non from rule : ℕ) : Type 0 where
  pub place : ℕ
  pub dot : ℕ
  pub after : from ≤ place
  pub in_list : slice_get (waiters_at waits non) place ≡ Some (record { rule = rule; dot = dot })

abbrev pub IsSetOrWaits : Grammar → Grammar → Picks → ℕ → ℕ → Type 0
IsSetOrWaits g h s non rule = IsSetIn g h s rule ⊎ WaitsFor s.waiting.items non 0 rule
