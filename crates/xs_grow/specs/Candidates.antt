-- What a chart says of labels, mark by mark: of a nonterminal the rules that are finished over its stretch,
-- of first items the places where the last one begins. Throughout `has j c i` says that set j of the chart
-- has the item of place c and origin i.
use Rattle.std.specs.Prelude.{◌≡◌, ◌⊎◌, ℕ, suc, ◌<◌, ◌≤◌, List, [], ◌∷◌, ◌++◌, length, None, Some, slice_get, slice_range, Contains}
use Rattle.xs_chart.specs.declared.item.Item.{Item}
use Rattle.xs_chart.specs.Different.{AreDifferent}
use Rattle.xs_gram.specs.declared.parts.GItem.{GItem}
use Rattle.xs_gram.specs.declared.parts.GItem.TheVariants.{Fixed, Term, Non, Skip}
use Rattle.xs_gram.specs.declared.places.Place.{Place}
use Rattle.xs_gram.specs.Grammar.{Grammar, rule_of, items, IsRuleOf, ItemAt, IsTermWord, IsSkipWord}
use Rattle.xs_gram.specs.Places.{at_dot, all_places}
use Rattle.xs_gram.specs.Sound.{IsBuilt}
use Rattle.xs_chart.specs.Charted.{set_limit}
use Rattle.xs_chart_laws.specs.Reading.{Reads}
use Rattle.xs_chart_laws.specs.Charts.{IsNumber, set_at}
use Rattle.xs_forest_laws.specs.declared.span.SpanKey.{SpanKey}
use Rattle.xs_forest_laws.specs.declared.span.What.TheVariants.{Whole, Front}
use Rattle.xs_forest_laws.specs.Forest.{key_at}
use Rattle.xs_forest_laws.specs.Grown.{ItemOver}
use Rattle.xs_grow.specs.declared.call.Call.{Call}
use Rattle.xs_grow.specs.Lists.{AreOnce, HasAllOf}
use Rattle.xs_grow.specs.Marked.{IsFirst, IsAgain}

-- a label, and a number that belongs to it
abbrev pub Candidate : Type 0
Candidate = SpanKey × ℕ

abbrev pub call_at : ℕ → ℕ → Call
call_at n i = record { non = n; start = i }

-- a nonterminal over a stretch, and a rule of it that is finished there
pub record WholeCandidate (g : Grammar) (has : ℕ → Place → ℕ → Type 0) (c : Candidate) : Type 0 where
  pub non : ℕ
  pub rule : ℕ
  pub start : ℕ
  pub end : ℕ
  pub is : c ≡ (key_at (Whole non) start end, rule)
  pub of : IsRuleOf g non rule
  pub ended : has end (at_dot rule (length (items g rule))) start

-- the item is no fixed word, so that it does not show from its end where it begins
abbrev pub IsSearched : GItem → Type 0
IsSearched (Fixed v) = ⊥
IsSearched (Term t s) = Unit {0}
IsSearched (Skip k) = Unit {0}
IsSearched (Non n s) = Unit {0}

-- two or more first items of a rule over a stretch, of which the last is no fixed word, and a place where it
-- may begin
pub record FrontCandidate (g : Grammar) (w : List ℕ) (has : ℕ → Place → ℕ → Type 0) (c : Candidate) : Type 0 where
  pub rule : ℕ
  pub dot : ℕ
  pub start : ℕ
  pub end : ℕ
  pub split : ℕ
  pub item : GItem
  pub is : c ≡ (key_at (Front rule (suc dot)) start end, split)
  pub later : 0 < dot
  pub searched : IsSearched item
  pub at : ItemAt g rule dot item
  pub before : has split (at_dot rule dot) start
  pub last : ItemOver g w has item split end

-- the candidate of an item of set j that stands at the end of a rule
pub record WholeAt (g : Grammar) (j : ℕ) (it : Item) (c : Candidate) : Type 0 where
  pub place : Place
  pub numbered : IsNumber g it.state place
  pub plain : place.inside ≡ None
  pub whole : place.dot ≡ length (items g place.rule)
  pub is : c ≡ (key_at (Whole (rule_of g place.rule).non) it.origin j, place.rule)

-- the ends of items can be looked for: the grammar is built, the document is short, and no call is noted twice
pub record CanEnd (g : Grammar) (w : List ℕ) (calls : List (Call × ℕ)) : Type 0 where
  pub built : IsBuilt g
  pub once : AreOnce calls
  pub short : length w < set_limit

-- where the item, begun at place m, ends: a nonterminal at one of the places that its call has
abbrev pub EndsAt : Grammar → List ℕ → List (Call × ℕ) → GItem → ℕ → ℕ → Type 0
EndsAt g w calls (Fixed v) m j = Reads w m v j
EndsAt g w calls (Term t s) m j = (m ≤ j) × (j ≤ length w) × IsTermWord g t (slice_range w m j)
EndsAt g w calls (Skip k) m j = (m ≤ j) × (j ≤ length w) × IsSkipWord g k (slice_range w m j)
EndsAt g w calls (Non n s) m j = Contains calls (call_at n m, j)

-- item n of the rule is searched, and not its first one
abbrev pub IsLater : List GItem → ℕ → Type 0
IsLater is n = (item : GItem) × (slice_get is n ≡ Some item) × (0 < n) × IsSearched item

-- a candidate of an item of set j that stands before a later item of a rule, one that is searched
pub record FrontFrom (g : Grammar) (w : List ℕ) (calls : List (Call × ℕ)) (j : ℕ) (it : Item) (c : Candidate) : Type 0 where
  pub place : Place
  pub numbered : IsNumber g it.state place
  pub plain : place.inside ≡ None
  pub item : GItem
  pub later : 0 < place.dot
  pub searched : IsSearched item
  pub at : ItemAt g place.rule place.dot item
  pub end : ℕ
  pub last : EndsAt g w calls item j end
  pub is : c ≡ (key_at (Front place.rule (suc place.dot)) it.origin end, j)

-- it is a candidate of one of the first t items of set j
abbrev pub InSet : (ℕ → Item → Candidate → Type 0) → List (List Item) → ℕ → ℕ → Candidate → Type 0
InSet P sets j t c = (k : ℕ) × (k < t) × (it : Item) × (slice_get (set_at sets j) k ≡ Some it) × P j it c

-- it is a candidate of an item of one of the first n sets
abbrev pub InSets : (ℕ → Item → Candidate → Type 0) → List (List Item) → ℕ → Candidate → Type 0
InSets P sets n c = (j : ℕ) × (j < n) × InSet P sets j (length (set_at sets j)) c

-- a call of a nonterminal, and a place where it ends, by one of the first t marks
abbrev pub CallIn : List Candidate → ℕ → Call × ℕ → Type 0
CallIn marks t c = (r : ℕ) × (r < t) × (n : ℕ) × (i : ℕ) × (j : ℕ) × (q : ℕ) × (slice_get marks r ≡ Some (key_at (Whole n) i j, q)) × (c ≡ (call_at n i, j))

-- the calls have the places where they end, by all of the marks
abbrev pub AreCallsOf : List Candidate → List (Call × ℕ) → Type 0
AreCallsOf marks calls = HasAllOf (CallIn marks (length marks)) calls

-- the items' numbers are those of places, and no set has an item twice
pub record HasPlaces (g : Grammar) (sets : List (List Item)) : Type 0 where
  pub placed : (j : ℕ) (it : Item) → Contains (set_at sets j) it → it.state < length (all_places g)
  pub different : (j : ℕ) → AreDifferent (set_at sets j)

-- the call that a label gives, with the place where it ends
abbrev pub called : SpanKey → List (Call × ℕ)
called k = elim k.what [ Whole n ↦ (call_at n k.start, k.end) ∷ [] | Front p d ↦ [] ]

-- the call of the label at place t is new, where that is the first mark of the label
abbrev pub IsCallPushed : List Candidate → ℕ → SpanKey → List (Call × ℕ) → List (Call × ℕ) → Type 0
IsCallPushed marks t key old new = (IsFirst marks t key × (new ≡ old ++ called key)) ⊎ (IsAgain marks t key × (new ≡ old))
