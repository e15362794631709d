-- Attributes read one after the other.
use Rattle.std.proofs.Common.{◌≡◌, ℕ, zero, suc, ◌≤◌, ◌<◌, List, [], ◌∷◌, ◌++◌, append-nil, append_assoc, length, map, codes, Bool, true, false, not, ◌==◌, ◌&&◌, if◌then◌else◌, Some, None, refl, sym, ◌∙◌, ap, subst, arith}
use Rattle.std.specs.declared.option.Option.{Option}
use Rattle.std.specs.Option.{option_map}
use Rattle.xs_xml_laws.specs.Tables.{is_white, is_name_char, is_quote}
use Rattle.xs_xml_laws.specs.Piece.{Attribute, Bit, plain, ref, is_name, is_gap, is_bit, are_bits, is_attribute, are_attributes, all_of, spelt_attribute}
use Rattle.xs_xml_laws.specs.Reads.{value}
use Rattle.xs_xml_laws.specs.Scan.{span, after, cut, ◌>>=◌, bit_if, as_ref, bit_at, bits_at, more, attr_if, as_attr, attr_quote, attr_right, attr_at, attrs_at}
use Rattle.xs_xml_laws.proofs.Steps.{run_all}
use Rattle.xs_xml_laws.proofs.Tags.{attr_long}
use Rattle.xs_xml_laws.proofs.TagSoundness.{attr_sound}
use Rattle.xs_form.specs.Values.{all_written}
use Rattle.xs_form.specs.Attributes.{Held, held, kept_attribute, Head, head_quote, head_right, head_at}
use Rattle.xs_class.proofs.Truth.{both_true}
use Rattle.xs_class.proofs.Lists.{some_inj}
use Rattle.xs_class.specs.Words.{is_empty}

-- what is read as parts of a value are parts
bit_kept : (q : ℕ) (t : Bool) (b : Bit) (rest : List ℕ) (r : Bit × List ℕ) → is_bit q b ≡ t → bit_if t b rest ≡ Some r → is_bit q r.0 ≡ true
bit_kept q true b rest r is found = subst (λ (x : Bit × List ℕ). is_bit q x.0 ≡ true) (some_inj (b, rest) r found) is
bit_kept q false b rest r is found = absurd (cc)

bit_ref : (q : ℕ) (o : Option (List ℕ × List ℕ)) (r : Bit × List ℕ) → (o >>= as_ref q) ≡ Some r → is_bit q r.0 ≡ true
bit_ref q None r found = absurd (cc)
bit_ref q (Some x) r found = bit_kept q (is_bit q (ref x.0)) (ref x.0) x.1 r refl found

bit_one : (q c : ℕ) (cs : List ℕ) (r : Bit × List ℕ) (t : Bool) → (if t then (cut (codes ";") cs >>= as_ref q) else bit_if (is_bit q (plain c)) (plain c) cs) ≡ Some r → is_bit q r.0 ≡ true
bit_one q c cs r true found = bit_ref q (cut (codes ";") cs) r found
bit_one q c cs r false found = bit_kept q (is_bit q (plain c)) (plain c) cs r refl found

bit_of : (q : ℕ) (cs : List ℕ) (r : Bit × List ℕ) → bit_at q cs ≡ Some r → is_bit q r.0 ≡ true
bit_of q [] r found = absurd (cc)
bit_of q (c ∷ cs) r found = bit_one q c cs r (c == 38) found

bits_more : (q : ℕ) (cs : List ℕ) (go : List ℕ → List Bit × List ℕ) (o : Option (Bit × List ℕ)) → ((x : Bit × List ℕ) → o ≡ Some x → is_bit q x.0 ≡ true) → ((ds : List ℕ) → are_bits q (go ds).0 ≡ true) → are_bits q (more go cs o).0 ≡ true
bits_more q cs go None one all = refl
bits_more q cs go (Some x) one all = both_true (is_bit q x.0) (are_bits q (go x.1).0) (one x refl) (all x.1)

bits_are : (n q : ℕ) (cs : List ℕ) → are_bits q (bits_at n q cs).0 ≡ true
bits_are zero q cs = refl
bits_are (suc n) q cs = bits_more q cs (λ r. bits_at n q r) (bit_at q cs) (λ x h. bit_of q cs x h) (λ ds. bits_are n q ds)

-- an attribute is its head and its value
abbrev pub finished : List ℕ → ℕ → List Bit → Option (List ℕ) → Option (Held × List ℕ)
finished n q bits None = None
finished n q bits (Some rest) = Some (record { name = n; symbols = value false bits; written = all_written bits }, rest)

abbrev pub finish_with : List ℕ → ℕ → List Bit × List ℕ → Option (Held × List ℕ)
finish_with n q r = finished n q r.0 (after (q ∷ []) r.1)

abbrev pub finish : Head → Option (Held × List ℕ)
finish h = finish_with h.0 h.1 (bits_at (length h.2) h.1 h.2)

gap_is : (gap : List ℕ) → all_of is_white gap ≡ true → is_gap gap ≡ not (is_empty gap)
gap_is [] all = refl
gap_is (c ∷ cs) all = all

same_test : (gap n left right : List ℕ) (q : ℕ) (bits : List Bit) → all_of is_white gap ≡ true → all_of is_white left ≡ true → all_of is_white right ≡ true → are_bits q bits ≡ true → is_attribute (record { gap = gap; name = n; left = left; right = right; quote = q; value = bits }) ≡ (not (is_empty gap) && (is_name n && is_quote q))
same_test gap n left right q bits g l r b = rw (gap_is gap g, l, r, b) (ap (λ (x : Bool). not (is_empty gap) && (is_name n && x)) (and_same (is_quote q)))
  where
    and_same : (x : Bool) → (x && true) ≡ x
    and_same true = refl
    and_same false = refl

kept_value : (gap n left right : List ℕ) (q : ℕ) (cs : List ℕ) (r : List Bit × List ℕ) (o : Option (List ℕ)) (t : Bool) → bits_at (length cs) q cs ≡ r → after (q ∷ []) r.1 ≡ o → is_attribute (record { gap = gap; name = n; left = left; right = right; quote = q; value = r.0 }) ≡ t → option_map kept_attribute (o >>= as_attr (record { gap = gap; name = n; left = left; right = right; quote = q; value = r.0 })) ≡ (if◌then◌else◌ {A = Option Head} t (Some (n, q, cs)) None >>= finish)
kept_value gap n left right q cs r None true b e is = rw (b, e) refl
kept_value gap n left right q cs r None false b e is = refl
kept_value gap n left right q cs r (Some rest) true b e is = rw (is, b, e) refl
kept_value gap n left right q cs r (Some rest) false b e is = rw is refl

kept_quote : (gap n left : List ℕ) (x : List ℕ × List ℕ) → all_of is_white gap ≡ true → all_of is_white left ≡ true → all_of is_white x.0 ≡ true → option_map kept_attribute (attr_quote gap n left x) ≡ (head_quote gap n x >>= finish)
kept_quote gap n left (right, []) g l r = refl
kept_quote gap n left (right, q ∷ cs) g l r =
    let b = bits_at (length cs) q cs in
    kept_value gap n left right q cs b (after (q ∷ []) b.1) (not (is_empty gap) && (is_name n && is_quote q)) refl refl (same_test gap n left right q b.0 g l r (bits_are (length cs) q cs))

kept_left : (gap n left : List ℕ) (o : Option (List ℕ)) → all_of is_white gap ≡ true → all_of is_white left ≡ true → option_map kept_attribute (o >>= attr_right gap n left) ≡ ((o >>= head_right gap n) >>= finish)
kept_left gap n left None g l = refl
kept_left gap n left (Some x) g l = kept_quote gap n left (span is_white x) g l (run_all is_white x)

pub attr_is : (cs : List ℕ) → option_map kept_attribute (attr_at cs) ≡ (head_at cs >>= finish)
unfolding attr_at
attr_is cs =
    let g = span is_white cs in
    let n = span is_name_char g.1 in
    let l = span is_white n.1 in
    kept_left g.0 n.0 l.0 (after (codes "=") l.1) (run_all is_white cs) (run_all is_white n.1)

-- the three ways in which an attribute is read or not
pub no_head : (cs : List ℕ) → None ≡ head_at cs → None ≡ option_map kept_attribute (attr_at cs)
no_head cs h = sym (attr_is cs ∙ ap (λ (x : Option Head). x >>= finish) (sym h))

same_end : (n symbols : List ℕ) (q : ℕ) (written : Bool) (bits : List Bit) (o : Option (List ℕ)) → symbols ≡ value false bits → written ≡ all_written bits → option_map (λ (x : List ℕ). (record { name = n; symbols = symbols; written = written }, x)) o ≡ finished n q bits o
same_end n symbols q written bits None s w = refl
same_end n symbols q written bits (Some x) s w = rw (s, w) refl

pub one_end : (cs n more symbols : List ℕ) (q : ℕ) (written : Bool) (rest : List ℕ) (o : Option (List ℕ)) → Some (n, q, more) ≡ head_at cs → symbols ≡ value false (bits_at (length more) q more).0 → written ≡ all_written (bits_at (length more) q more).0 → rest ≡ (bits_at (length more) q more).1 → o ≡ after (q ∷ []) rest → option_map (λ (x : List ℕ). (record { name = n; symbols = symbols; written = written }, x)) o ≡ option_map kept_attribute (attr_at cs)
one_end cs n more symbols q written rest o h s w r e =
    let b = bits_at (length more) q more in
    same_end n symbols q written b.0 o s w
    ∙ ap (λ (x : Option (List ℕ)). finished n q b.0 x) (e ∙ ap (λ (x : List ℕ). after (q ∷ []) x) r)
    ∙ sym (attr_is cs ∙ ap (λ (x : Option Head). x >>= finish) (sym h))

-- what is read as an attribute is one
abbrev pub AreFound : Option (Attribute × List ℕ) → Type 0
AreFound f = (r : Attribute × List ℕ) → f ≡ Some r → is_attribute r.0 ≡ true

found_if : (t : Bool) (a : Attribute) (rest : List ℕ) → is_attribute a ≡ t → AreFound (attr_if t a rest)
found_if true a rest is = λ r e. subst (λ (x : Attribute × List ℕ). is_attribute x.0 ≡ true) (some_inj (a, rest) r e) is
found_if false a rest is = λ r e. absurd (cc)

found_bind : (o : Option (List ℕ)) (f : List ℕ → Option (Attribute × List ℕ)) → ((x : List ℕ) → AreFound (f x)) → AreFound (o >>= f)
found_bind None f each = λ r e. absurd (cc)
found_bind (Some x) f each = each x

found_quote : (gap n left : List ℕ) (x : List ℕ × List ℕ) → AreFound (attr_quote gap n left x)
found_quote gap n left (right, []) = λ r e. absurd (cc)
found_quote gap n left (right, q ∷ cs) =
    let b = bits_at (length cs) q cs in
    let a : Attribute = record { gap = gap; name = n; left = left; right = right; quote = q; value = b.0 } in
    found_bind (after (q ∷ []) b.1) (as_attr a) (λ x. found_if (is_attribute a) a x refl)

attr_found : (cs : List ℕ) → AreFound (attr_at cs)
unfolding attr_at
attr_found cs =
    let g = span is_white cs in
    let n = span is_name_char g.1 in
    let l = span is_white n.1 in
    found_bind (after (codes "=") l.1) (attr_right g.0 n.0 l.0) (λ x. found_quote g.0 n.0 l.0 (span is_white x))

attrs_more : (cs : List ℕ) (go : List ℕ → List Attribute × List ℕ) (o : Option (Attribute × List ℕ)) → AreFound o → ((ds : List ℕ) → are_attributes (go ds).0 ≡ true) → are_attributes (more go cs o).0 ≡ true
attrs_more cs go None one all = refl
attrs_more cs go (Some x) one all = both_true (is_attribute x.0) (are_attributes (go x.1).0) (one x refl) (all x.1)

attrs_are : (n : ℕ) (cs : List ℕ) → are_attributes (attrs_at n cs).0 ≡ true
attrs_are zero cs = refl
attrs_are (suc n) cs = attrs_more cs (λ r. attrs_at n r) (attr_at cs) (attr_found cs) (λ ds. attrs_are n ds)

-- the attributes so far, and those that are left, are all of them
pub record IsListSoFar (text : List ℕ) (list : List Held) (rest : List ℕ) : Type 0 where
  pub fuel : ℕ
  pub room : length rest ≤ fuel
  pub kept_is : map held (attrs_at (length text) text).0 ≡ list ++ map held (attrs_at fuel rest).0
  pub rest_is : (attrs_at (length text) text).1 ≡ (attrs_at fuel rest).1

pub list_begins : (text : List ℕ) → IsListSoFar text [] text
list_begins text = record { fuel = length text; room = omega arith; kept_is = refl; rest_is = refl }

attrs_one : (n : ℕ) (rest more : List ℕ) (a : Attribute) → attr_at rest ≡ Some (a, more) → attrs_at (suc n) rest ≡ (a ∷ (attrs_at n more).0, (attrs_at n more).1)
attrs_one n rest more a is = rw is refl

attrs_none : (n : ℕ) (rest : List ℕ) → attr_at rest ≡ None → attrs_at n rest ≡ ([], rest)
attrs_none zero rest is = refl
attrs_none (suc n) rest is = rw is refl

shorter : (rest more : List ℕ) (a : Attribute) → attr_at rest ≡ Some (a, more) → length more < length rest
shorter rest more a is = let spells : rest ≡ spelt_attribute a more = attr_sound rest (a, more) is in subst (λ (x : List ℕ). length more < length x) (sym spells) (attr_long a more)

list_fuel : (text : List ℕ) (list : List Held) (rest more : List ℕ) (a : Attribute) (fuel : ℕ) → length rest ≤ fuel → map held (attrs_at (length text) text).0 ≡ list ++ map held (attrs_at fuel rest).0 → (attrs_at (length text) text).1 ≡ (attrs_at fuel rest).1 → attr_at rest ≡ Some (a, more) → IsListSoFar text (list ++ held a ∷ []) more
list_fuel text list rest more a zero room k r is = absurd (omega (arith, shorter rest more a is))
list_fuel text list rest more a (suc n) room k r is =
    let one = attrs_one n rest more a is in
    record {
      fuel = n;
      room = omega (arith, shorter rest more a is);
      kept_is = k ∙ ap (λ (x : List Attribute × List ℕ). list ++ map held x.0) one ∙ sym (append_assoc list (held a ∷ []) (map held (attrs_at n more).0));
      rest_is = r ∙ ap (λ (x : List Attribute × List ℕ). x.1) one;
    }

held_pair : (r s : Held × List ℕ) → Some r ≡ Some s → (r.0 ≡ s.0) × (r.1 ≡ s.1)
held_pair r s is = let e : r ≡ s = some_inj r s is in (ap (λ (x : Held × List ℕ). x.0) e, ap (λ (x : Held × List ℕ). x.1) e)

pub list_more : (text : List ℕ) (list : List Held) (rest more : List ℕ) (h : Held) → IsListSoFar text list rest → Some (h, more) ≡ option_map kept_attribute (attr_at rest) → IsListSoFar text (list ++ h ∷ []) more
list_more text list rest more h so is = by (attr_at rest) refl is
  where
    by : (o : Option (Attribute × List ℕ)) → attr_at rest ≡ o → Some (h, more) ≡ option_map kept_attribute o → IsListSoFar text (list ++ h ∷ []) more
    by None at e = absurd (cc)
    by (Some r) at e =
        let p = held_pair (h, more) (held r.0, r.1) e in
        let next = list_fuel text list rest r.1 r.0 so.fuel so.room so.kept_is so.rest_is at in
        subst (λ (x : List ℕ). IsListSoFar text (list ++ h ∷ []) x) (sym p.1) (subst (λ (x : Held). IsListSoFar text (list ++ x ∷ []) r.1) (sym p.0) next)

pub attribute_shorter : (rest more : List ℕ) (h : Held) → Some (h, more) ≡ option_map kept_attribute (attr_at rest) → length more < length rest
attribute_shorter rest more h is = by (attr_at rest) refl is
  where
    by : (o : Option (Attribute × List ℕ)) → attr_at rest ≡ o → Some (h, more) ≡ option_map kept_attribute o → length more < length rest
    by None at e = absurd (cc)
    by (Some r) at e = let p = held_pair (h, more) (held r.0, r.1) e in subst (λ (x : List ℕ). length x < length rest) (sym p.1) (shorter rest r.1 r.0 at)

-- no attribute is left
pub record IsList (text : List ℕ) (list : List Held) (rest : List ℕ) : Type 0 where
  pub kept : list ≡ map held (attrs_at (length text) text).0
  pub left : rest ≡ (attrs_at (length text) text).1
  pub are : are_attributes (attrs_at (length text) text).0 ≡ true

pub list_ends : (text : List ℕ) (list : List Held) (rest : List ℕ) → IsListSoFar text list rest → None ≡ option_map kept_attribute (attr_at rest) → IsList text list rest
list_ends text list rest so is = by (attr_at rest) refl is
  where
    by : (o : Option (Attribute × List ℕ)) → attr_at rest ≡ o → None ≡ option_map kept_attribute o → IsList text list rest
    by (Some r) at e = absurd (cc)
    by None at e =
        let none = attrs_none so.fuel rest at in
        record {
          kept = sym (so.kept_is ∙ ap (λ (x : List Attribute × List ℕ). list ++ map held x.0) none ∙ append-nil list);
          left = sym (so.rest_is ∙ ap (λ (x : List Attribute × List ℕ). x.1) none);
          are = attrs_are (length text) text;
        }
