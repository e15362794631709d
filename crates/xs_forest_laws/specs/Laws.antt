-- Laws of shared forests.
use Rattle.std.specs.Prelude.{◌≡◌, ℕ, zero, suc, ◌<◌, List, [], length, Bool, Some}
use Rattle.std.specs.declared.option.Option.{Option}
use Rattle.xs_chart.specs.declared.item.Item.{Item}
use Rattle.xs_gram.specs.declared.parts.GItem.{GItem}
use Rattle.xs_gram.specs.Grammar.{Grammar, items, IsRuleOf, ItemAt}
use Rattle.xs_gram.specs.Derivations.{Parts, done, sub, Derivation}
use Rattle.xs_gram.specs.Languages.{Derives, InLang}
use Rattle.xs_gram.specs.Places.{at_dot}
use Rattle.xs_chart_laws.specs.Charts.{HasPlace, IsChartOf}
use Rattle.xs_forest.specs.declared.row.Alt.{Alt}
use Rattle.xs_forest_laws.specs.declared.span.SpanKey.{SpanKey}
use Rattle.xs_forest_laws.specs.declared.span.What.{What}
use Rattle.xs_forest_laws.specs.declared.span.What.TheVariants.{Whole, Front}
use Rattle.xs_forest_laws.specs.Forest.{Forest, key_at, IsRow, Unfolding, Unfolds, read, items_of, Spans, FrontAt, ItemRow, IsRight}
use Rattle.xs_forest_laws.specs.Grown.{ItemOver, IsGrown}
use Rattle.xs_forest_laws.specs.Adding.{more_of, IsNext}
use Rattle.xs_forest_laws.specs.Order.{IsRanked, IsTail, level_of}
use Rattle.xs_forest_laws.specs.Placed.{key_in, IsOrdered, HasKeys}
use Rattle.xs_forest_laws.specs.First.{IsFirst}
use Rattle.xs_forest_laws.specs.Listing.{IsListed, IsByNumber}

-- each unfolding of a row reads as parts for the items of its label that spell its stretch
abbrev pub UnfoldingFits : Type 0
UnfoldingFits = (g : Grammar) (w : List ℕ) (f : Forest) → IsRight g w f → (r : ℕ) (x : What) (i j : ℕ) (u : Unfolding) → IsRow f r x i j → Unfolds f (Some r) u → Spans g w (items_of g x) i j (read g w f (Some r) u)

-- all such parts are read from an unfolding
abbrev pub FittingIsUnfolded : Type 0
FittingIsUnfolded = (g : Grammar) (w : List ℕ) (f : Forest) → IsRight g w f → (r : ℕ) (x : What) (i j : ℕ) (ps : Parts) → IsRow f r x i j → Spans g w (items_of g x) i j ps → (u : Unfolding) × Unfolds f (Some r) u × (read g w f (Some r) u ≡ ps)

-- and from only one
abbrev pub ReadingIsOnce : Type 0
ReadingIsOnce = (g : Grammar) (w : List ℕ) (f : Forest) → IsRight g w f → (r : ℕ) (u v : Unfolding) → Unfolds f (Some r) u → Unfolds f (Some r) v → read g w f (Some r) u ≡ read g w f (Some r) v → u ≡ v

-- The unfoldings of the root are exactly the derivations of the document, each once.
pub record IsExact (g : Grammar) (w : List ℕ) (f : Forest) (root : ℕ) : Type 0 where
  pub derives : (u : Unfolding) → Unfolds f (Some root) u → (d : Derivation) × Derives g w d × (read g w f (Some root) u ≡ sub d.rule d.parts done)
  pub unfolds : (d : Derivation) → Derives g w d → (u : Unfolding) × Unfolds f (Some root) u × (read g w f (Some root) u ≡ sub d.rule d.parts done)
  pub once : (u v : Unfolding) → Unfolds f (Some root) u → Unfolds f (Some root) v → read g w f (Some root) u ≡ read g w f (Some root) v → u ≡ v

-- the row of the start over the whole document
abbrev pub IsRoot : Grammar → List ℕ → Forest → ℕ → Type 0
IsRoot g w f root = IsRow f root (Whole g.start) zero (length w)

-- the forest is right for the grammar and the document, and the row is its root
pub record IsForestOf (g : Grammar) (w : List ℕ) (f : Forest) (root : ℕ) : Type 0 where
  pub right : IsRight g w f
  pub root_is : IsRoot g w f root

abbrev pub RootIsExact : Type 0
RootIsExact = (g : Grammar) (w : List ℕ) (f : Forest) → IsRight g w f → (root : ℕ) → IsRoot g w f root → IsExact g w f root

-- each row that has an unfolding has one by the first alternatives
abbrev pub FirstUnfolds : Type 0
FirstUnfolds = (g : Grammar) (w : List ℕ) (f : Forest) → IsRight g w f → (r : ℕ) (u : Unfolding) → Unfolds f (Some r) u → (v : Unfolding) × IsFirst f (Some r) v × Unfolds f (Some r) v

-- a forest that is grown by a document's chart is right
abbrev pub GrownIsRight : Type 0
GrownIsRight = (g : Grammar) (w : List ℕ) (sets : List (List Item)) (f : Forest) → IsChartOf g w sets → IsGrown g w (HasPlace g sets) f → IsRight g w f

-- the forest without rows is grown, and a grown forest with one more row that fits it is grown
abbrev pub AddedIsGrown : Type 0
AddedIsGrown = (g : Grammar) (w : List ℕ) (sets : List (List Item)) → IsGrown g w (HasPlace g sets) [] × ((f : Forest) (x : What) (i j : ℕ) (alts : List Alt) → IsGrown g w (HasPlace g sets) f → IsNext g w (HasPlace g sets) f x i j alts → IsGrown g w (HasPlace g sets) (more_of f x i j alts))

-- The children of a label are there: of a nonterminal the last front of each rule that is finished over the
-- stretch, of first items the front before the last one and the last one's row.
pub record HasChildren (g : Grammar) (w : List ℕ) (sets : List (List Item)) (f : Forest) (x : What) (i j : ℕ) : Type 0 where
  pub whole : (n q : ℕ) → x ≡ Whole n → IsRuleOf g n q → HasPlace g sets j (at_dot q (length (items g q))) i → (o : Option ℕ) × FrontAt f q (length (items g q)) i j o
  pub left : (p d m : ℕ) (item : GItem) → x ≡ Front p (suc d) → ItemAt g p d item → HasPlace g sets m (at_dot p d) i → ItemOver g w (HasPlace g sets) item m j → (o : Option ℕ) × FrontAt f p d i m o
  pub right : (p d m : ℕ) (item : GItem) → x ≡ Front p (suc d) → ItemAt g p d item → HasPlace g sets m (at_dot p d) i → ItemOver g w (HasPlace g sets) item m j → (o : Option ℕ) × ItemRow f item m j o

-- where rows are made in the order of their labels, the children of the next row are there
abbrev pub ChildrenComeFirst : Type 0
ChildrenComeFirst = (g : Grammar) (w : List ℕ) (sets : List (List Item)) → IsChartOf g w sets → (rank : ℕ → ℕ) (tail : ℕ → ℕ → Bool) → IsRanked g rank → IsTail g tail → (ks : List SpanKey) → IsOrdered g (HasPlace g sets) (level_of g rank tail) ks → (f : Forest) → HasKeys f ks → length f < length ks → (x : What) (i j : ℕ) → key_in ks (length f) ≡ key_at x i j → HasChildren g w sets f x i j

-- a grown forest with a row for each label of the chart has a root whose unfoldings are exactly the
-- derivations of the document
abbrev pub GrownIsExact : Type 0
GrownIsExact = (g : Grammar) (w : List ℕ) (sets : List (List Item)) (f : Forest) (place : SpanKey → List ℕ) (ks : List SpanKey) → IsChartOf g w sets → IsOrdered g (HasPlace g sets) place ks → HasKeys f ks → length f ≡ length ks → IsGrown g w (HasPlace g sets) f → InLang g w → (root : ℕ) × IsRoot g w f root × IsExact g w f root

-- derivations that are read from the unfoldings of the root by their numbers are a listing
abbrev pub NumberedIsListed : Type 0
NumberedIsListed = (g : Grammar) (w : List ℕ) (f : Forest) → IsRight g w f → (root : ℕ) → IsRoot g w f root → (max : ℕ) (cs : List ℕ) (ds : List Derivation) (more : Bool) → IsByNumber g w f root max cs ds more → IsListed g w max ds more
