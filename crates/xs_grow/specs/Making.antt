-- What the rows of a forest are made of: for each label the numbers that stand for its alternatives, and for
-- each number the alternative with the rows of its children.
use Rattle.std.specs.Prelude.{◌≡◌, ℕ, zero, suc, ◌<◌, ◌≤◌, Bool, true, List, [], ◌++◌, length, All, None, Some, slice_get}
use Rattle.std.specs.declared.option.Option.{Option}
use Rattle.xs_gram.specs.declared.parts.GItem.{GItem}
use Rattle.xs_gram.specs.declared.parts.GItem.TheVariants.{Fixed, Term, Non, Skip}
use Rattle.xs_gram.specs.declared.places.Place.{Place}
use Rattle.xs_gram.specs.Grammar.{Grammar, items, IsRuleOf, ItemAt}
use Rattle.xs_gram.specs.Places.{at_dot}
use Rattle.xs_gram.specs.Chart.{Stands}
use Rattle.xs_gram.specs.Sound.{IsBuilt}
use Rattle.xs_chart.specs.Charted.{set_limit}
use Rattle.xs_forest.specs.declared.row.Alt.{Alt}
use Rattle.xs_forest.specs.Rows.{HasLabel}
use Rattle.xs_forest_laws.specs.declared.span.SpanKey.{SpanKey}
use Rattle.xs_forest_laws.specs.declared.span.What.{What}
use Rattle.xs_forest_laws.specs.declared.span.What.TheVariants.{Whole, Front}
use Rattle.xs_forest_laws.specs.Forest.{Forest, key_at, item_of, IsRow}
use Rattle.xs_forest_laws.specs.Grown.{ItemOver, IsLabelBy}
use Rattle.xs_grow.specs.declared.source.Source.{Source}
use Rattle.xs_grow.specs.Lists.{HasAllOf}
use Rattle.xs_grow.specs.Candidates.{WholeCandidate, FrontCandidate}

-- the item of place c and origin i stands in set j
abbrev pub stands_at : Grammar → List ℕ → ℕ → Place → ℕ → Type 0
stands_at g w j c i = Stands g w c i j

-- the label is one of the chart
abbrev pub IsLabel : Grammar → List ℕ → SpanKey → Type 0
IsLabel g w key = IsLabelBy g (stands_at g w) key.what key.start key.end

-- the number stands for an alternative: of a nonterminal it is a rule that is finished over the stretch, of
-- first items a place where the last of them may begin
abbrev pub IsNumberOf : Grammar → List ℕ → (ℕ → Place → ℕ → Type 0) → What → ℕ → ℕ → ℕ → Type 0
IsNumberOf g w has (Whole n) i j q = IsRuleOf g n q × has j (at_dot q (length (items g q))) i
IsNumberOf g w has (Front p zero) i j m = ⊥
IsNumberOf g w has (Front p (suc d)) i j m = (item : GItem) × ItemAt g p d item × has m (at_dot p d) i × ItemOver g w has item m j

-- the numbers of a label
abbrev pub AreNumbersOf : Grammar → List ℕ → SpanKey → List ℕ → Type 0
AreNumbersOf g w key numbers = HasAllOf (IsNumberOf g w (stands_at g w) key.what key.start key.end) numbers

-- the marks are those of the document
pub record IsSource (s : Source) : Type 0 where
  pub built : IsBuilt s.g.now
  pub short : length s.doc.now < set_limit
  pub wholes : HasAllOf (WholeCandidate s.g.now (stands_at s.g.now s.doc.now)) s.wholes.now
  pub splits : HasAllOf (FrontCandidate s.g.now s.doc.now (stands_at s.g.now s.doc.now)) s.splits.now

-- the label of the first d items of rule p over the stretch, and no label where d is 0
abbrev pub front_label : ℕ → ℕ → ℕ → ℕ → Option SpanKey
front_label p zero i j = None
front_label p (suc d) i j = Some (key_at (Front p (suc d)) i j)

-- the label of the item over the stretch where it is a nonterminal, and else no label
abbrev pub item_label : GItem → ℕ → ℕ → Option SpanKey
item_label (Fixed v) i j = None
item_label (Term t s) i j = None
item_label (Skip k) i j = None
item_label (Non n s) i j = Some (key_at (Whole n) i j)

-- o is the row of the label, and no row where there is no label
abbrev pub IsRowOf : Forest → Option SpanKey → Option ℕ → Type 0
IsRowOf f None o = o ≡ None
IsRowOf f (Some key) o = (r : ℕ) × (o ≡ Some r) × HasLabel f r key

-- the alternative that a number of the label stands for
abbrev pub IsMade : Grammar → Forest → What → ℕ → ℕ → ℕ → Alt → Type 0
IsMade g f (Whole n) i j q a = (a.rule ≡ q) × IsRowOf f (front_label q (length (items g q)) i j) a.left × (a.right ≡ None)
IsMade g f (Front p zero) i j m a = ⊥
IsMade g f (Front p (suc d)) i j m a = (a.rule ≡ p) × IsRowOf f (front_label p d i m) a.left × IsRowOf f (item_label (item_of g p d) m j) a.right

-- the alternatives that the numbers stand for, in their order
pub record AreMade (g : Grammar) (f : Forest) (key : SpanKey) (numbers : List ℕ) (alts : List Alt) : Type 0 where
  pub long : length alts ≡ length numbers
  pub each : (k n : ℕ) → slice_get numbers k ≡ Some n → (a : Alt) × (slice_get alts k ≡ Some a) × IsMade g f key.what key.start key.end n a

-- no row has the label
abbrev pub HasNoRow : Forest → SpanKey → Type 0
HasNoRow f key = (at : ℕ) → HasLabel f at key → ⊥

-- The list goes on by labels of the chart that have no row; where it goes on by none, P holds.
pub record Misses (g : Grammar) (w : List ℕ) (f : Forest) (P : Type 0) (old new : List SpanKey) : Type 0 where
  pub more : List SpanKey
  pub is : new ≡ old ++ more
  pub labels : All (IsLabel g w) more
  pub rowless : All (HasNoRow f) more
  pub done : more ≡ [] → P

-- What a visit of a label leaves: where it answers no row, the forest as it was and a longer list of labels; or
-- the label's row and the list as it was. Of a new label the row is made, and comes last.
abbrev pub IsVisited : Grammar → List ℕ → SpanKey → Bool → Forest → Forest → List SpanKey → List SpanKey → Option ℕ → Type 0
IsVisited g w key is_new f f' old new None = (f' ≡ f) × (length old < length new) × Misses g w f (Unit {0}) old new
IsVisited g w key is_new f f' old new (Some r) = IsRow f' r key.what key.start key.end × (new ≡ old) × (length f ≤ length f') × (is_new ≡ true → r ≡ length f)

-- The labels that are still to be made are those of the chart, the root first. A new one, which is the last, has
-- no row.
pub record AreOwed (g : Grammar) (w : List ℕ) (f : Forest) (root : SpanKey) (is_new : Bool) (stack : List SpanKey) : Type 0 where
  pub labels : All (IsLabel g w) stack
  pub root_first : slice_get stack 0 ≡ Some root
  pub rowless : (k : ℕ) (key : SpanKey) → is_new ≡ true → suc k ≡ length stack → slice_get stack k ≡ Some key → HasNoRow f key
