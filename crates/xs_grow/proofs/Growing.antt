-- A row that is made of the numbers of its label fits the grown forest, and the finished forest is the document's.
use Rattle.std.proofs.Common.{◌≡◌, ℕ, zero, suc, ◌-◌, ◌<◌, List, [], ◌∷◌, ◌++◌, length, slice_get, Option, Some, refl, sym, ap, ◌∙◌, subst, arith, inl, inr, append-nil, append_assoc}
use Rattle.std.specs.Prelude.{Contains, MatchOption, slice_index_or}
use Rattle.std.proofs.lemmas.List.Elements.{All-nil, All-cons, All-append}
use Rattle.std.proofs.lemmas.Option.{none-some, same_Some, slice_get_within}
use Rattle.xs_class.proofs.Lists.{get_of, contains_of, one_longer, get_left, get_last, get_push}
use Rattle.xs_gram.specs.declared.parts.GItem.{GItem}
use Rattle.xs_gram.specs.declared.parts.GItem.TheVariants.{Fixed, Term, Non, Skip}
use Rattle.xs_gram.specs.declared.places.Place.{Place}
use Rattle.xs_gram.specs.Grammar.{Grammar, items, ItemAt}
use Rattle.xs_gram.specs.Places.{at_dot}
use Rattle.xs_chart_laws.proofs.Words.{get_some}
use Rattle.xs_forest.specs.declared.row.Alt.{Alt}
use Rattle.xs_forest.specs.Rows.{AreEarlier, HasLabel}
use Rattle.xs_forest_laws.specs.declared.span.SpanKey.{SpanKey}
use Rattle.xs_forest_laws.specs.declared.span.What.{What}
use Rattle.xs_forest_laws.specs.declared.span.What.TheVariants.{Whole, Front}
use Rattle.xs_forest_laws.specs.Forest.{Forest, key_at, key_of, no_row, item_of, IsRow, FrontAt, ItemRow}
use Rattle.xs_forest_laws.specs.Grown.{ItemOver, WholeBy, FrontBy, IsAltBy, IsGrown}
use Rattle.xs_forest_laws.specs.Adding.{IsNext}
use Rattle.xs_forest_laws.specs.Laws.{IsForestOf, IsExact}
use Rattle.xs_forest_laws.proofs.Adding.{added}
use Rattle.xs_forest_laws.proofs.Read.{get_or_is}
use Rattle.xs_forest_laws.proofs.Rows.{row_at, alts_earlier}
use Rattle.xs_forest_laws.proofs.Placed.{empty_at}
use Rattle.xs_forest_laws.proofs.Grows.{grown_is_right}
use Rattle.xs_forest_laws.proofs.Root.{exact as root_exact}
use Rattle.xs_grow.specs.Making.{stands_at, IsLabel, IsNumberOf, AreNumbersOf, IsRowOf, front_label, item_label, IsMade, AreMade, HasNoRow, Misses}
use Rattle.xs_grow.proofs.Numbering.{exact}

-- the row of a label
pub label_row : (f : Forest) (r : ℕ) (x : What) (i j : ℕ) → HasLabel f r (key_at x i j) → IsRow f r x i j
label_row f r x i j (alts, at) = let row = row_at f r (key_at x i j) alts at in (row.0, row.1)

row_label : (f : Forest) (r : ℕ) (key : SpanKey) → r < length f → key_of f r ≡ key → HasLabel f r key
row_label f r key lt e =
    let row = get_some f r lt in
    let is : row.0.0 ≡ key = sym (ap (λ (z : SpanKey × List Alt). z.0) (get_or_is f r row.0 no_row row.1)) ∙ e in
    (row.0.1, subst (λ (z : SpanKey). slice_get f r ≡ Some (z, row.0.1)) is row.1)

front_once : (f : Forest) (p d i m l : ℕ) (o : Option ℕ) → FrontAt f p d i m o → FrontAt f p d i l o → m ≡ l
front_once f p zero i m l o a b = sym a.1 ∙ b.1
front_once f p (suc d) i m l o (r, e, row) (s, e', row') =
    let same : r ≡ s = same_Some r s (sym e ∙ e') in
    ap (λ (z : SpanKey). z.end) (sym row.1 ∙ (ap (λ z. key_of f z) same ∙ row'.1))

module _ (g : Grammar) (f : Forest) (key : SpanKey) where
  pub none_made : AreMade g f key [] []
  none_made = record { long = refl; each = λ k n e. absurd (none-some n e) }

  -- one alternative more
  pub made_more : (numbers more : List ℕ) (alts alts' : List Alt) (n : ℕ) (a : Alt) → more ≡ numbers ++ n ∷ [] → alts' ≡ alts ++ a ∷ [] → IsMade g f key.what key.start key.end n a → AreMade g f key numbers alts → AreMade g f key more alts'
  made_more numbers more alts alts' n a e e' made h = subst (λ z. AreMade g f key z alts') (sym e) (subst (λ z. AreMade g f key (numbers ++ n ∷ []) z) (sym e') (record { long = one_longer alts a ∙ (ap suc h.long ∙ sym (one_longer numbers n)); each = each }))
    where
      each : (k m : ℕ) → slice_get (numbers ++ n ∷ []) k ≡ Some m → (b : Alt) × (slice_get (alts ++ a ∷ []) k ≡ Some b) × IsMade g f key.what key.start key.end m b
      each k m at = elim (get_push numbers n m k at) [
        | inl old ↦ let b = h.each k m old in (b.0, get_left alts (a ∷ []) k b.0 b.1, b.2)
        | inr last ↦ (a, ap (λ z. slice_get (alts ++ a ∷ []) z) (last.0 ∙ sym h.long) ∙ get_last alts a, subst (λ z. IsMade g f key.what key.start key.end z a) last.1 made)
      ]

-- first those that one part misses, and then those of another one
pub misses_then : (g : Grammar) (w : List ℕ) (f : Forest) (P Q R : Type 0) (a b c : List SpanKey) → Misses g w f P a b → Misses g w f Q b c → (P → Q → R) → Misses g w f R a c
misses_then g w f P Q R a b c one two both = record {
  more = one.more ++ two.more;
  is = two.is ∙ (ap (λ (z : List SpanKey). z ++ two.more) one.is ∙ append_assoc a one.more two.more);
  labels = All-append (IsLabel g w) one.more two.more one.labels two.labels;
  rowless = All-append (HasNoRow f) one.more two.more one.rowless two.rowless;
  done = λ none. both (one.done (front_none one.more two.more none)) (two.done (rest_none one.more two.more none));
}
  where
    front_none : (u v : List SpanKey) → u ++ v ≡ [] → u ≡ []
    front_none [] v e = refl
    front_none (x ∷ u) v e = cc

    rest_none : (u v : List SpanKey) → u ++ v ≡ [] → v ≡ []
    rest_none [] v e = e
    rest_none (x ∷ u) v e = cc

pub misses_none : (g : Grammar) (w : List ℕ) (f : Forest) (P : Type 0) (a : List SpanKey) → P → Misses g w f P a a
misses_none g w f P a p = record { more = []; is = sym (append-nil a); labels = All-nil (IsLabel g w); rowless = All-nil (HasNoRow f); done = λ e. p }

-- one label without a row
pub misses_one : (g : Grammar) (w : List ℕ) (f : Forest) (P : Type 0) (label : Option SpanKey) (key : SpanKey) (old new : List SpanKey) → label ≡ Some key → MatchOption label (Unit {0}) (IsLabel g w) → HasNoRow f key → new ≡ old ++ key ∷ [] → Misses g w f P old new
misses_one g w f P label key old new is labelled rowless e = record {
  more = key ∷ [];
  is = e;
  labels = All-cons (IsLabel g w) key [] (subst (λ z. MatchOption z (Unit {0}) (IsLabel g w)) is labelled) (All-nil (IsLabel g w));
  rowless = All-cons (HasNoRow f) key [] rowless (All-nil (HasNoRow f));
  done = λ none. cc;
}

-- first items that stand have their label
front_is : (g : Grammar) (w : List ℕ) (p d i j : ℕ) → stands_at g w j (at_dot p d) i → MatchOption (front_label p d i j) (Unit {0}) (IsLabel g w)
front_is g w p zero i j h = tt
front_is g w p (suc d) i j h = (omega arith, h)

-- and so has an item over its stretch
item_is : (g : Grammar) (w : List ℕ) (item : GItem) (m j : ℕ) → ItemOver g w (stands_at g w) item m j → MatchOption (item_label item m j) (Unit {0}) (IsLabel g w)
item_is g w (Fixed v) m j h = tt
item_is g w (Term t s) m j h = tt
item_is g w (Skip k) m j h = tt
item_is g w (Non n s) m j h = h

-- the labels and the alternative of first items, whose last item is read
module _ (g : Grammar) (w : List ℕ) (x : What) (p dot i j m : ℕ) (front : x ≡ Front p dot) (number : IsNumberOf g w (stands_at g w) x i j m) (items' : List GItem) (same : items' ≡ items g p) (item : GItem) (read : item ≡ slice_index_or items' (dot - 1) item) where
  -- the number stands for a place before the last item
  pub record IsSplit (d : ℕ) : Type 0 where
    pub is : dot ≡ suc d
    pub before : stands_at g w m (at_dot p d) i
    pub at : ItemAt g p d item
    pub over : ItemOver g w (stands_at g w) item m j

  split : IsSplit (dot - 1)
  split = go dot refl (rw front at number)
    where
      go : (n : ℕ) → dot ≡ n → IsNumberOf g w (stands_at g w) (Front p n) i j m → IsSplit (dot - 1)
      go zero e h = absurd h
      go (suc d) e (other, there, before, over) =
          let one : d ≡ dot - 1 = omega arith in
          let there' : ItemAt g p (dot - 1) other = subst (λ k. ItemAt g p k other) one there in
          let item_same : other ≡ item = sym (read ∙ (ap (λ (z : List GItem). slice_index_or z (dot - 1) item) same ∙ get_or_is (items g p) (dot - 1) other item there')) in
          record {
            is = omega arith;
            before = subst (λ k. stands_at g w m (at_dot p k) i) one before;
            at = subst (λ z. ItemAt g p (dot - 1) z) item_same there';
            over = subst (λ z. ItemOver g w (stands_at g w) z m j) item_same over;
          }

  pub before_label : (label : Option SpanKey) → label ≡ front_label p (dot - 1) i m → MatchOption label (Unit {0}) (IsLabel g w)
  before_label label is = rw is (front_is g w p (dot - 1) i m split.before)

  pub last_label : (label : Option SpanKey) → label ≡ item_label item m j → MatchOption label (Unit {0}) (IsLabel g w)
  last_label label is = rw is (item_is g w item m j split.over)

  pub front_made : (f : Forest) (before last : Option SpanKey) (left right : Option ℕ) → before ≡ front_label p (dot - 1) i m → last ≡ item_label item m j → IsRowOf f before left → IsRowOf f last right → IsMade g f x i j m (record { rule = p; left = left; right = right })
  front_made f before last left right before_is last_is a b =
      let left_row : IsRowOf f (front_label p (dot - 1) i m) left = subst (λ l. IsRowOf f l left) before_is a in
      let right_row : IsRowOf f (item_label item m j) right = subst (λ l. IsRowOf f l right) last_is b in
      let right_row' : IsRowOf f (item_label (item_of g p (dot - 1)) m j) right = subst (λ z. IsRowOf f (item_label z m j) right) (sym (get_or_is (items g p) (dot - 1) item (Skip zero) split.at)) right_row in
      rw (front, split.is) (refl, left_row, right_row')

module _ (g : Grammar) (w : List ℕ) (f : Forest) where
  abbrev has : ℕ → Place → ℕ → Type 0
  has = stands_at g w

  -- the children of an alternative are the rows of their labels
  front_at : (p d i j : ℕ) (o : Option ℕ) → IsRowOf f (front_label p d i j) o → has j (at_dot p d) i → FrontAt f p d i j o
  front_at p zero i j o h there = (h, empty_at g w has (exact g w) p i j there)
  front_at p (suc d) i j o (r, e, row) there = (r, e, label_row f r (Front p (suc d)) i j row)

  item_row : (item : GItem) (m j : ℕ) (o : Option ℕ) → IsRowOf f (item_label item m j) o → ItemRow f item m j o
  item_row (Fixed v) m j o h = h
  item_row (Term t s) m j o h = h
  item_row (Skip k) m j o h = h
  item_row (Non n s) m j o (r, e, row) = (r, e, label_row f r (Whole n) m j row)

  whole_by : (n i j q : ℕ) (a : Alt) → IsNumberOf g w has (Whole n) i j q → IsMade g f (Whole n) i j q a → WholeBy g has f n i j q a
  whole_by n i j q a h made = record { rule_is = made.0; of = h.0; ended = h.1; left_is = front_at q (length (items g q)) i j a.left made.1 h.1; right_is = made.2 }

  front_by : (p d i j m : ℕ) (item : GItem) (a : Alt) → ItemAt g p d item → has m (at_dot p d) i → ItemOver g w has item m j → IsMade g f (Front p (suc d)) i j m a → FrontBy g w has f p d i j m item a
  front_by p d i j m item a at before last made =
      let same : item_of g p d ≡ item = get_or_is (items g p) d item (Skip zero) at in
      record { rule_is = made.0; item_is = at; before = before; last = last; left_is = front_at p d i m a.left made.1 before; right_is = item_row item m j a.right (subst (λ z. IsRowOf f (item_label z m j) a.right) same made.2) }

  alt_by : (x : What) (i j n : ℕ) (a : Alt) → IsNumberOf g w has x i j n → IsMade g f x i j n a → IsAltBy g w has f x i j a
  alt_by (Whole m) i j n a h made = subst (λ z. WholeBy g has f m i j z a) (sym made.0) (whole_by m i j n a h made)
  alt_by (Front p zero) i j n a h made = absurd h
  alt_by (Front p (suc d)) i j n a (item, at, before, last) made = (n, item, front_by p d i j n item a at before last made)

  -- the number that an alternative stands for
  made_once : (x : What) (i j n m : ℕ) (a : Alt) → IsNumberOf g w has x i j n → IsNumberOf g w has x i j m → IsMade g f x i j n a → IsMade g f x i j m a → n ≡ m
  made_once (Whole l) i j n m a h k made made' = sym made.0 ∙ made'.0
  made_once (Front p zero) i j n m a h k made made' = absurd h
  made_once (Front p (suc d)) i j n m a (item, at, before, last) (item', at', before', last') made made' = front_once f p d i n m a.left (front_at p d i n a.left made.1 before) (front_at p d i m a.left made'.1 before')

  module _ (x : What) (i j : ℕ) (label : IsLabel g w (key_at x i j)) (numbers : List ℕ) (all : AreNumbersOf g w (key_at x i j) numbers) (alts : List Alt) (made : AreMade g f (key_at x i j) numbers alts) where
    -- each alternative is one that a number stands for
    made_of : (k : ℕ) (a : Alt) → slice_get alts k ≡ Some a → (n : ℕ) × (slice_get numbers k ≡ Some n) × IsNumberOf g w has x i j n × IsMade g f x i j n a
    made_of k a at =
        let lt = slice_get_within alts k a at in
        let l = made.long in
        let n = get_some numbers k (omega arith) in
        let b = made.each k n.0 n.1 in
        (n.0, n.1, all.sound n.0 (contains_of numbers k n.0 n.1), subst (λ z. IsMade g f x i j n.0 z) (same_Some b.0 a (sym b.1 ∙ at)) b.2)

    -- and each number stands for one
    made_there : (n : ℕ) → IsNumberOf g w has x i j n → (a : Alt) × Contains alts a × IsMade g f x i j n a
    made_there n h =
        let at = get_of numbers n (all.complete n h) in
        let a = made.each at.0 n at.1 in
        (a.0, contains_of alts at.0 a.0 a.1, a.2)

    sound : (a : Alt) → Contains alts a → IsAltBy g w has f x i j a
    sound a c = let at = get_of alts a c in let n = made_of at.0 a at.1 in alt_by x i j n.0 a n.2 n.3

    next : HasNoRow f (key_at x i j) → IsNext g w has f x i j alts
    next missing = record {
      label = label;
      new_label = λ r lt e. missing r (row_label f r (key_at x i j) lt e);
      sound = sound;
      wholes = λ n q e of ended.
          let h : IsNumberOf g w has (Whole n) i j q = (of, ended) in
          let a = made_there q (subst (λ z. IsNumberOf g w has z i j q) (sym e) h) in
          (a.0, a.1, whole_by n i j q a.0 h (subst (λ z. IsMade g f z i j q a.0) e a.2));
      fronts = λ p d m item e at before last.
          let h : IsNumberOf g w has (Front p (suc d)) i j m = (item, at, before, last) in
          let a = made_there m (subst (λ z. IsNumberOf g w has z i j m) (sym e) h) in
          (a.0, a.1, front_by p d i j m item a.0 at before last (subst (λ z. IsMade g f z i j m a.0) e a.2));
      once = λ k l a at_k at_l.
          let n = made_of k a at_k in
          let m = made_of l a at_l in
          let same = made_once x i j n.0 m.0 a n.2 m.2 n.3 m.3 in
          all.once k l m.0 (subst (λ z. slice_get numbers k ≡ Some z) same n.1) m.1;
    }

    pub earlier : AreEarlier alts (length f)
    earlier = alts_earlier g w has f x i j alts sound

    pub grown_more : HasNoRow f (key_at x i j) → (longer : Forest) → longer ≡ f ++ (key_at x i j, alts) ∷ [] → IsGrown g w has f → IsGrown g w has longer
    grown_more missing longer e grown = subst (λ (z : Forest). IsGrown g w has z) (sym e) (added g w has f x i j alts grown (next missing))

  -- the finished forest
  pub forest_of : (root : ℕ) → IsGrown g w has f → IsRow f root (Whole g.start) 0 (length w) → IsForestOf g w f root
  forest_of root grown row = record { right = grown_is_right g w has (exact g w) f grown; root_is = row }

  pub exact_of : (root : ℕ) → IsForestOf g w f root → IsExact g w f root
  exact_of root h = root_exact g w f h.right root h.root_is
