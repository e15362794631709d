-- What an unfolding of a front reads as, and each unfolding reads as parts that fit.
use Rattle.std.proofs.Common.{append-nil, ◌≡◌, ℕ, zero, suc, List, [], ◌∷◌, ◌++◌, length, take, Option, Some, None, refl, sym, ap, ◌∙◌, subst}
use Rattle.std.proofs.Math.Seq.{take-length}
use Rattle.std.specs.Prelude.{slice_get, slice_index_or, slice_range}
use Rattle.xs_gram.specs.declared.parts.GItem.{GItem}
use Rattle.xs_gram.specs.declared.parts.GItem.TheVariants.{Fixed, Term, Non, Skip}
use Rattle.xs_gram.specs.Grammar.{Grammar, items, ItemAt}
use Rattle.xs_gram.specs.Derivations.{Parts, done, fixed, leaf, skip, sub, FitsItems, parts_yield}
use Rattle.xs_chart_laws.proofs.Words.{get_take, Reads-join, Reads-slice, Reads-same}
use Rattle.xs_chart_laws.specs.Parts.{parts_then}
use Rattle.xs_chart_laws.proofs.Spelling.{then-yield, then-fits}
use Rattle.xs_forest.specs.declared.row.Alt.{Alt}
use Rattle.xs_forest_laws.specs.declared.span.SpanKey.{SpanKey}
use Rattle.xs_forest_laws.specs.declared.span.What.{What}
use Rattle.xs_forest_laws.specs.declared.span.What.TheVariants.{Whole, Front}
use Rattle.xs_forest_laws.specs.Forest.{Forest, IsRow, Unfolding, bare, pick, Unfolds, word_part, item_of, end_of, last_part, read, items_of, Spans, IsSpelt, FrontAt, ItemRow, FrontAlt, IsAlt, IsRight}

pub get_or_is : {X : Type 0} (xs : List X) (n : ℕ) (x d : X) → slice_get xs n ≡ Some x → slice_index_or xs n d ≡ x
get_or_is [] n x d e = cc
get_or_is (y ∷ xs) zero x d e = cc
get_or_is (y ∷ xs) (suc n) x d e = get_or_is xs n x d e

-- the part of an item that is no nonterminal is the stretch's word
abbrev pub IsWord : GItem → Type 0
IsWord (Non m s) = ⊥
IsWord _ = Unit {0}

pub word_is : (g : Grammar) (w : List ℕ) (item : GItem) (i j : ℕ) (ps : Parts) → IsWord item → Spans g w (item ∷ []) i j ps → word_part item (slice_range w i j) ≡ ps
word_is g w (Fixed v) i j (fixed u done) h s = ap (λ (z : List ℕ). fixed z done) (Reads-slice w i (u ++ []) j s.1 ∙ append-nil u)
word_is g w (Term t v) i j (leaf u done) h s = ap (λ (z : List ℕ). leaf z done) (Reads-slice w i (u ++ []) j s.1 ∙ append-nil u)
word_is g w (Skip t) i j (skip u done) h s = ap (λ (z : List ℕ). skip z done) (Reads-slice w i (u ++ []) j s.1 ∙ append-nil u)
word_is g w (Non m v) i j ps h s = absurd h
word_is g w (Fixed v) i j (fixed u _) h s = absurd s.0.1
word_is g w (Term t v) i j (leaf u _) h s = absurd s.0.1
word_is g w (Skip t) i j (skip u _) h s = absurd s.0.1
word_is g w _ i j _ h s = absurd s.0

pub last_word : (g : Grammar) (w : List ℕ) (item : GItem) (i j : ℕ) (o : Option ℕ) (ps : Parts) → IsWord item → o ≡ None → IsSpelt g w (item ∷ []) i j → Spans g w (item ∷ []) i j (last_part item (slice_range w i j) o ps)
last_word g w item i j o ps h e sp =
    let s : Spans g w (item ∷ []) i j (word_part item (slice_range w i j)) = subst (λ z. Spans g w (item ∷ []) i j z) (sym (word_is g w item i j sp.0 h sp.1)) sp.1 in
    subst (λ z. Spans g w (item ∷ []) i j (last_part item (slice_range w i j) z ps)) (sym e) s

-- the slot of a nonterminal does not matter
pub any_slot : (g : Grammar) (n s t : ℕ) (ps : Parts) → FitsItems g (Non n s ∷ []) ps → FitsItems g (Non n t ∷ []) ps
any_slot g n s t (sub q qs done) f = f
any_slot g n s t (sub q qs _) f = absurd f.2
any_slot g n s t _ f = absurd f

pub end_is : (f : Forest) (p d i m : ℕ) (o : Option ℕ) → FrontAt f p d i m o → end_of f i o ≡ m
end_is f p zero i m o h = rw h.0 h.1
end_is f p (suc d) i m o h = rw h.1 (ap (λ (k : SpanKey). k.end) h.2.1)

pub read_front : (g : Grammar) (w : List ℕ) (f : Forest) (n p d i j m : ℕ) (item : GItem) (a : Alt) (l r : Unfolding) → IsRow f n (Front p (suc d)) i j → FrontAlt g w f p d i j m item a → read g w f (Some n) (pick a l r) ≡ parts_then (read g w f a.left l) (last_part item (slice_range w m j) a.right (read g w f a.right r))
read_front g w f n p d i j m item a l r row h =
    let e : item_of g p d ≡ item = get_or_is (items g p) d item (Skip zero) h.item_is in
    rw (row.1, e, end_is f p d i m a.left h.left_is) refl

pub read_whole : (g : Grammar) (w : List ℕ) (f : Forest) (n m i j : ℕ) (a : Alt) (l r : Unfolding) → IsRow f n (Whole m) i j → read g w f (Some n) (pick a l r) ≡ sub a.rule (read g w f a.left l) done
read_whole g w f n m i j a l r row = rw row.1 refl

-- the parts of the front items, and the last part
pub spans_more : (g : Grammar) (w : List ℕ) (p d i m j : ℕ) (item : GItem) (ps rs : Parts) → ItemAt g p d item → Spans g w (take d (items g p)) i m ps → Spans g w (item ∷ []) m j rs → Spans g w (take (suc d) (items g p)) i j (parts_then ps rs)
spans_more g w p d i m j item ps rs at s t = (
  rw (get_take (items g p) d item at) (then-fits g (take d (items g p)) (item ∷ []) ps rs s.0 t.0),
  Reads-same w i (parts_yield ps ++ parts_yield rs) (parts_yield (parts_then ps rs)) j (sym (then-yield ps rs)) (Reads-join w i (parts_yield ps) (parts_yield rs) m j s.1 t.1),
)

module _ (g : Grammar) (w : List ℕ) (f : Forest) where
  -- each unfolding of each row in which u stands reads as parts that fit
  abbrev pub Good : Unfolding → Type 0
  Good u = (r : ℕ) (x : What) (i j : ℕ) → IsRow f r x i j → Unfolds f (Some r) u → Spans g w (items_of g x) i j (read g w f (Some r) u)

  pub front_good : (l : Unfolding) (p d i m : ℕ) (o : Option ℕ) → Good l → FrontAt f p d i m o → Unfolds f o l → Spans g w (take d (items g p)) i m (read g w f o l)
  front_good l p zero i m o good h u = rw h.0 (tt, h.1)
  front_good l p (suc d) i m o good h u =
      let u' : Unfolds f (Some h.0) l = rw h.1 at u in
      rw h.1 (good h.0 (Front p (suc d)) i m h.2 u')

  pub last_good : (r : Unfolding) (item : GItem) (m j : ℕ) (o : Option ℕ) → Good r → IsSpelt g w (item ∷ []) m j → ItemRow f item m j o → Unfolds f o r → Spans g w (item ∷ []) m j (last_part item (slice_range w m j) o (read g w f o r))
  last_good r (Fixed v) m j o good sp h u = last_word g w (Fixed v) m j o (read g w f o r) tt h sp
  last_good r (Term t v) m j o good sp h u = last_word g w (Term t v) m j o (read g w f o r) tt h sp
  last_good r (Skip t) m j o good sp h u = last_word g w (Skip t) m j o (read g w f o r) tt h sp
  last_good r (Non n v) m j o good sp h u =
      let u' : Unfolds f (Some h.0) r = rw h.1 at u in
      let s = good h.0 (Whole n) m j h.2 u' in
      rw h.1 (any_slot g n zero v (read g w f (Some h.0) r) s.0, s.1)

  good_row : (r : ℕ) (x : What) (i j : ℕ) (a : Alt) (l t : Unfolding) → IsRow f r x i j → IsAlt g w f x i j a → Good l → Good t → Unfolds f a.left l → Unfolds f a.right t → Spans g w (items_of g x) i j (read g w f (Some r) (pick a l t))
  good_row r (Whole n) i j a l t row h gl gt ul ut =
      let s = front_good l a.rule (length (items g a.rule)) i j a.left gl h.left_is ul in
      rw (read_whole g w f r n i j a l t row) ((h.of, rw take-length at s.0, tt), Reads-same w i (parts_yield (read g w f a.left l)) (parts_yield (read g w f a.left l) ++ []) j (sym (append-nil (parts_yield (read g w f a.left l)))) s.1)
  good_row r (Front p zero) i j a l t row h gl gt ul ut = absurd h
  good_row r (Front p (suc d)) i j a l t row (m, item, h) gl gt ul ut =
      rw (read_front g w f r p d i j m item a l t row h)
      (spans_more g w p d i m j item (read g w f a.left l) (last_part item (slice_range w m j) a.right (read g w f a.right t)) h.item_is
      (front_good l p d i m a.left gl h.left_is ul)
      (last_good t item m j a.right gt h.last h.right_is ut))

  pub unfolding_fits : IsRight g w f → (u : Unfolding) → Good u
  unfolding_fits right bare r x i j row u = absurd u
  unfolding_fits right (pick a l t) r x i j row (lt, c, ul, ut) =
      good_row r x i j a l t row (right.sound r x i j a row c) (unfolding_fits right l) (unfolding_fits right t) ul ut
