-- Two unfoldings of a row that read the same are the same.
use Rattle.std.proofs.Common.{◌≡◌, ℕ, zero, suc, List, [], ◌∷◌, length, take, Option, Some, None, refl, sym, ap, ◌∙◌, subst}
use Rattle.std.specs.Prelude.{slice_range}
use Rattle.xs_gram.specs.declared.parts.GItem.{GItem}
use Rattle.xs_gram.specs.declared.parts.GItem.TheVariants.{Fixed, Term, Non, Skip}
use Rattle.xs_gram.specs.Grammar.{Grammar, items}
use Rattle.xs_gram.specs.Derivations.{Parts, done, fixed, leaf, skip, sub, FitsItems, parts_yield}
use Rattle.xs_chart_laws.specs.Reading.{Reads}
use Rattle.xs_chart_laws.proofs.Words.{Reads-is}
use Rattle.xs_chart_laws.specs.Parts.{parts_then}
use Rattle.xs_forest.specs.declared.row.Alt.{Alt}
use Rattle.xs_forest_laws.specs.declared.span.What.{What}
use Rattle.xs_forest_laws.specs.declared.span.What.TheVariants.{Whole, Front}
use Rattle.xs_forest_laws.specs.Forest.{Forest, key_of, IsRow, Unfolding, bare, pick, Unfolds, last_part, read, FrontAt, ItemRow, WholeAlt, FrontAlt, IsAlt, IsRight}
use Rattle.xs_forest_laws.proofs.Read.{read_front, read_whole, front_good, unfolding_fits}
use Rattle.xs_class.proofs.Lists.{some_same}

-- two lists of parts for the same items, each with more after it
pub then_cancel : (g : Grammar) (is : List GItem) (ps qs rs ts : Parts) → FitsItems g is ps → FitsItems g is qs → parts_then ps rs ≡ parts_then qs ts → (ps ≡ qs) × (rs ≡ ts)
then_cancel g [] done done rs ts f h e = (refl, e)
then_cancel g (Fixed v ∷ is) (fixed u ps) (fixed x qs) rs ts f h e =
    let c = then_cancel g is ps qs rs ts f.1 h.1 (cc) in
    let d : u ≡ x = cc in (rw (d, c.0) refl, c.1)
then_cancel g (Term t v ∷ is) (leaf u ps) (leaf x qs) rs ts f h e =
    let c = then_cancel g is ps qs rs ts f.1 h.1 (cc) in
    let d : u ≡ x = cc in (rw (d, c.0) refl, c.1)
then_cancel g (Skip t ∷ is) (skip u ps) (skip x qs) rs ts f h e =
    let c = then_cancel g is ps qs rs ts f.1 h.1 (cc) in
    let d : u ≡ x = cc in (rw (d, c.0) refl, c.1)
then_cancel g (Non m v ∷ is) (sub p us ps) (sub q xs qs) rs ts f h e =
    let c = then_cancel g is ps qs rs ts f.2 h.2 (cc) in
    let d : p ≡ q = cc in
    let d' : us ≡ xs = cc in (rw (d, d', c.0) refl, c.1)
then_cancel g (Fixed v ∷ is) (fixed u ps) _ rs ts f h e = absurd h
then_cancel g (Term t v ∷ is) (leaf u ps) _ rs ts f h e = absurd h
then_cancel g (Skip t ∷ is) (skip u ps) _ rs ts f h e = absurd h
then_cancel g (Non m v ∷ is) (sub p us ps) _ rs ts f h e = absurd h
then_cancel g [] done _ rs ts f h e = absurd h
then_cancel g _ _ _ rs ts f h e = absurd f

alt_is : (a b : Alt) → a.rule ≡ b.rule → a.left ≡ b.left → a.right ≡ b.right → a ≡ b
alt_is a b e h k = ap (λ z. record { rule = z; left = a.left; right = a.right }) e ∙ (ap (λ z. record { rule = b.rule; left = z; right = a.right }) h ∙ ap (λ z. record { rule = b.rule; left = b.left; right = z }) k)

pub pick_is : (a b : Alt) (l s r t : Unfolding) → a ≡ b → l ≡ s → r ≡ t → pick a l r ≡ pick b s t
pick_is a b l s r t e h k = rw (e, h, k) refl

pub sub_rule : (p q : ℕ) (us xs : Parts) → sub p us done ≡ sub q xs done → p ≡ q
sub_rule p q us xs e = cc

pub sub_parts : (p q : ℕ) (us xs : Parts) → sub p us done ≡ sub q xs done → us ≡ xs
sub_parts p q us xs e = cc

module _ (g : Grammar) (w : List ℕ) (f : Forest) where
  -- what reads the same as l is l
  abbrev pub Only : Unfolding → Type 0
  Only l = (s : Unfolding) (o : Option ℕ) → Unfolds f o l → Unfolds f o s → read g w f o l ≡ read g w f o s → l ≡ s

  right_read : (item : GItem) (u : List ℕ) (o : Option ℕ) (r t : Unfolding) → last_part item u o (read g w f o r) ≡ last_part item u o (read g w f o t) → read g w f o r ≡ read g w f o t
  right_read item u None r t e = refl
  right_read item u (Some n) r t e = e

  none_read : (o : Option ℕ) (r t : Unfolding) → o ≡ None → read g w f o r ≡ read g w f o t
  none_read o r t e = rw e refl

  -- the unfoldings of equal children
  both : (l s : Unfolding) (o o' : Option ℕ) → Only l → o ≡ o' → Unfolds f o l → Unfolds f o' s → read g w f o l ≡ read g w f o' s → l ≡ s
  both l s o o' only e ul us h = only s o ul (rw (sym e) at us) (rw (sym e) at h)

  module _ (right : IsRight g w f) where
    row_one : (x : What) (i j n m : ℕ) → IsRow f n x i j → IsRow f m x i j → n ≡ m
    row_one x i j n m a b = right.one_row n m a.0 b.0 (a.1 ∙ sym b.1)

    some_row : (x : What) (i j : ℕ) (o o' : Option ℕ) → (n : ℕ) × (o ≡ Some n) × IsRow f n x i j → (n : ℕ) × (o' ≡ Some n) × IsRow f n x i j → o ≡ o'
    some_row x i j o o' a b = let e = row_one x i j a.0 b.0 a.2 b.2 in a.1 ∙ ap Some e ∙ sym b.1

    front_one : (p d i j : ℕ) (o o' : Option ℕ) → FrontAt f p d i j o → FrontAt f p d i j o' → o ≡ o'
    front_one p zero i j o o' a b = a.0 ∙ sym b.0
    front_one p (suc d) i j o o' a b = some_row (Front p (suc d)) i j o o' a b

    item_one : (item : GItem) (i j : ℕ) (o o' : Option ℕ) → ItemRow f item i j o → ItemRow f item i j o' → o ≡ o'
    item_one (Fixed v) i j o o' a b = a ∙ sym b
    item_one (Term t v) i j o o' a b = a ∙ sym b
    item_one (Skip t) i j o o' a b = a ∙ sym b
    item_one (Non m v) i j o o' a b = some_row (Whole m) i j o o' a b

    whole_once : (n k i j : ℕ) (a b : Alt) (l s r t : Unfolding) → IsRow f n (Whole k) i j → WholeAlt g w f k i j a.rule a → WholeAlt g w f k i j b.rule b → Only l → Only r → Unfolds f a.left l → Unfolds f a.right r → Unfolds f b.left s → Unfolds f b.right t → read g w f (Some n) (pick a l r) ≡ read g w f (Some n) (pick b s t) → pick a l r ≡ pick b s t
    whole_once n k i j a b l s r t row ha hb ol or ul ur us ut e =
        let e' = sym (read_whole g w f n k i j a l r row) ∙ (e ∙ read_whole g w f n k i j b s t row) in
        let er = sub_rule a.rule b.rule (read g w f a.left l) (read g w f b.left s) e' in
        let ep = sub_parts a.rule b.rule (read g w f a.left l) (read g w f b.left s) e' in
        let bl : FrontAt f a.rule (length (items g a.rule)) i j b.left = rw (sym er) at hb.left_is in
        let el = front_one a.rule (length (items g a.rule)) i j a.left b.left ha.left_is bl in
        let eo = ha.right_is ∙ sym hb.right_is in
        pick_is a b l s r t (alt_is a b er el eo)
        (both l s a.left b.left ol el ul us ep)
        (both r t a.right b.right or eo ur ut (none_read a.right r t ha.right_is ∙ ap (λ o. read g w f o t) eo))

    front_once : (n p d i j m m' : ℕ) (item item' : GItem) (a b : Alt) (l s r t : Unfolding) → IsRow f n (Front p (suc d)) i j → FrontAlt g w f p d i j m item a → FrontAlt g w f p d i j m' item' b → Only l → Only r → Unfolds f a.left l → Unfolds f a.right r → Unfolds f b.left s → Unfolds f b.right t → read g w f (Some n) (pick a l r) ≡ read g w f (Some n) (pick b s t) → pick a l r ≡ pick b s t
    front_once n p d i j m m' item item' a b l s r t row ha hb ol or ul ur us ut e =
        let e' = sym (read_front g w f n p d i j m item a l r row ha) ∙ (e ∙ read_front g w f n p d i j m' item' b s t row hb) in
        let sl = front_good g w f l p d i m a.left (unfolding_fits g w f right l) ha.left_is ul in
        let ss = front_good g w f s p d i m' b.left (unfolding_fits g w f right s) hb.left_is us in
        let c = then_cancel g (take d (items g p)) (read g w f a.left l) (read g w f b.left s) (last_part item (slice_range w m j) a.right (read g w f a.right r)) (last_part item' (slice_range w m' j) b.right (read g w f b.right t)) sl.0 ss.0 e' in
        let ss' : Reads w i (parts_yield (read g w f a.left l)) m' = subst (λ z. Reads w i (parts_yield z) m') (sym c.0) ss.1 in
        let em : m ≡ m' = Reads-is w i (parts_yield (read g w f a.left l)) m sl.1 ∙ sym (Reads-is w i (parts_yield (read g w f a.left l)) m' ss') in
        let ei : item ≡ item' = some_same _ item item' ha.item_is hb.item_is in
        let bl : FrontAt f p d i m b.left = rw (sym em) at hb.left_is in
        let br : ItemRow f item m j b.right = rw (sym em, sym ei) at hb.right_is in
        let el = front_one p d i m a.left b.left ha.left_is bl in
        let eo = item_one item m j a.right b.right ha.right_is br in
        let er = ha.rule_is ∙ sym hb.rule_is in
        let cr : last_part item (slice_range w m j) a.right (read g w f a.right r) ≡ last_part item (slice_range w m j) a.right (read g w f a.right t) = rw (sym em, sym ei, sym eo) at c.1 in
        pick_is a b l s r t (alt_is a b er el eo)
        (both l s a.left b.left ol el ul us c.0)
        (both r t a.right b.right or eo ur ut (right_read item (slice_range w m j) a.right r t cr ∙ ap (λ o. read g w f o t) eo))

    row_once : (n : ℕ) (x : What) (i j : ℕ) (a b : Alt) (l s r t : Unfolding) → IsRow f n x i j → IsAlt g w f x i j a → IsAlt g w f x i j b → Only l → Only r → Unfolds f a.left l → Unfolds f a.right r → Unfolds f b.left s → Unfolds f b.right t → read g w f (Some n) (pick a l r) ≡ read g w f (Some n) (pick b s t) → pick a l r ≡ pick b s t
    row_once n (Whole k) i j a b l s r t row ha hb ol or ul ur us ut e = whole_once n k i j a b l s r t row ha hb ol or ul ur us ut e
    row_once n (Front p zero) i j a b l s r t row ha hb ol or ul ur us ut e = absurd ha
    row_once n (Front p (suc d)) i j a b l s r t row ha hb ol or ul ur us ut e = front_once n p d i j ha.0 hb.0 ha.1 hb.1 a b l s r t row ha.2 hb.2 ol or ul ur us ut e

    pub reading_is_once : (u : Unfolding) → Only u
    reading_is_once bare bare o uu uv e = refl
    reading_is_once bare (pick b s t) None uu uv e = absurd uv
    reading_is_once bare (pick b s t) (Some n) uu uv e = absurd uu
    reading_is_once (pick a l r) v None uu uv e = absurd uu
    reading_is_once (pick a l r) bare (Some n) uu uv e = absurd uv
    reading_is_once (pick a l r) (pick b s t) (Some n) (lt, ca, ul, ur) (lt', cb, us, ut) e =
        let k = key_of f n in
        let row : IsRow f n k.what k.start k.end = (lt, refl) in
        row_once n k.what k.start k.end a b l s r t row (right.sound n k.what k.start k.end a row ca) (right.sound n k.what k.start k.end b row cb) (reading_is_once l) (reading_is_once r) ul ur us ut e
