-- What is read as a tag, an instruction or a declaration is spelt so.
use Rattle.std.proofs.Common.{◌≡◌, ℕ, zero, suc, List, [], ◌∷◌, ◌++◌, length, Some, None, true, false, Bool, if◌then◌else◌, ◌==◌, codes, refl, sym, ◌∙◌, ap, subst, eqb-true}
use Rattle.std.specs.declared.option.Option.{Option}
use Rattle.xs_xml_laws.specs.Tables.{is_name_char, is_white}
use Rattle.xs_xml_laws.specs.Piece.{Attribute, Bit, plain, ref, declaration, start_tag, empty_tag, instruction, spelt_bit, spelt_bits, spelt_attribute, spelt_attributes, is_bit, same}
use Rattle.xs_xml_laws.specs.Scan.{span, after, cut, ◌>>=◌, kept, char_at, reference_at, end_at, in_cdata, in_comment, bang_at, as_instruction, instruction_name, instruction_at, markup_at, piece_at, bit_if, as_ref, bit_at, more, bits_at, attr_if, as_attr, attr_quote, attr_right, attr_at, attrs_at, tag_end, tag_at, declaration_attrs}
use Rattle.xs_class.proofs.Lists.{some_inj}
use Rattle.xs_class.proofs.Words.{same_is}
use Rattle.xs_xml_laws.proofs.PieceSoundness.{Sound, sound_none, sound_if, sound_bind, sound_kept, span_is, after_is, cut_is, reference_sound, end_sound, cdata_sound, comment_sound, char_sound}

-- bits
bit_kept : (cs : List ℕ) (t : Bool) (b : Bit) (rest : List ℕ) (r : Bit × List ℕ) → cs ≡ spelt_bit b rest → bit_if t b rest ≡ Some r → cs ≡ spelt_bit r.0 r.1
bit_kept cs true b rest r spells is = subst (λ (x : Bit × List ℕ). cs ≡ spelt_bit x.0 x.1) (some_inj (b, rest) r is) spells
bit_kept cs false b rest r spells is = absurd (cc)

bit_ref : (q : ℕ) (cs : List ℕ) (o : Option (List ℕ × List ℕ)) (r : Bit × List ℕ) → ((x : List ℕ × List ℕ) → o ≡ Some x → cs ≡ x.0 ++ 59 ∷ x.1) → (o >>= as_ref q) ≡ Some r → (38 ∷ cs) ≡ spelt_bit r.0 r.1
bit_ref q cs None r tail is = absurd (cc)
bit_ref q cs (Some x) r tail is = bit_kept (38 ∷ cs) (is_bit q (ref x.0)) (ref x.0) x.1 r (ap (λ (y : List ℕ). 38 ∷ y) (tail x refl)) is

bit_one : (q c : ℕ) (cs : List ℕ) (r : Bit × List ℕ) (t : Bool) → (c == 38) ≡ t → (if t then (cut (codes ";") cs >>= as_ref q) else bit_if (is_bit q (plain c)) (plain c) cs) ≡ Some r → (c ∷ cs) ≡ spelt_bit r.0 r.1
bit_one q c cs r true e is = subst (λ (x : ℕ). (x ∷ cs) ≡ spelt_bit r.0 r.1) (sym (eqb-true c 38 e)) (bit_ref q cs (cut (codes ";") cs) r (λ x h. cut_is (codes ";") cs x h) is)
bit_one q c cs r false e is = bit_kept (c ∷ cs) (is_bit q (plain c)) (plain c) cs r refl is

pub bit_is : (q : ℕ) (cs : List ℕ) (r : Bit × List ℕ) → bit_at q cs ≡ Some r → cs ≡ spelt_bit r.0 r.1
bit_is q [] r is = absurd (cc)
bit_is q (c ∷ cs) r is = bit_one q c cs r (c == 38) refl is

bits_one : (cs : List ℕ) (go : List ℕ → List Bit × List ℕ) (o : Option (Bit × List ℕ)) → ((x : Bit × List ℕ) → o ≡ Some x → cs ≡ spelt_bit x.0 x.1) → ((ds : List ℕ) → ds ≡ spelt_bits (go ds).0 (go ds).1) → cs ≡ spelt_bits (more go cs o).0 (more go cs o).1
bits_one cs go None one all = refl
bits_one cs go (Some x) one all = one x refl ∙ ap (λ (y : List ℕ). spelt_bit x.0 y) (all x.1)

bits_are : (n q : ℕ) (cs : List ℕ) → cs ≡ spelt_bits (bits_at n q cs).0 (bits_at n q cs).1
bits_are zero q cs = refl
bits_are (suc n) q cs = bits_one cs (λ r. bits_at n q r) (bit_at q cs) (λ x h. bit_is q cs x h) (λ ds. bits_are n q ds)

-- attributes
abbrev AttrSound : List ℕ → Option (Attribute × List ℕ) → Type 0
AttrSound d f = (r : Attribute × List ℕ) → f ≡ Some r → d ≡ spelt_attribute r.0 r.1

attr_bind : (d : List ℕ) (o : Option (List ℕ)) (f : List ℕ → Option (Attribute × List ℕ)) → ((x : List ℕ) → o ≡ Some x → AttrSound d (f x)) → AttrSound d (o >>= f)
attr_bind d None f each = λ r is. absurd (cc)
attr_bind d (Some x) f each = each x refl

attr_kept : (d : List ℕ) (t : Bool) (a : Attribute) (rest : List ℕ) → d ≡ spelt_attribute a rest → AttrSound d (attr_if t a rest)
attr_kept d true a rest spells = λ r is. subst (λ (x : Attribute × List ℕ). d ≡ spelt_attribute x.0 x.1) (some_inj (a, rest) r is) spells
attr_kept d false a rest spells = λ r is. absurd (cc)

quote_sound : (d gap n left : List ℕ) (x : List ℕ × List ℕ) → d ≡ gap ++ (n ++ (left ++ 61 ∷ (x.0 ++ x.1))) → AttrSound d (attr_quote gap n left x)
quote_sound d gap n left (right, []) spells = λ r is. absurd (cc)
quote_sound d gap n left (right, q ∷ cs) spells =
    let b = bits_at (length cs) q cs in
    attr_bind d (after (q ∷ []) b.1) (as_attr (record { gap = gap; name = n; left = left; right = right; quote = q; value = b.0 })) (λ x h. attr_kept d _ (record { gap = gap; name = n; left = left; right = right; quote = q; value = b.0 }) x (spells ∙ ap (λ (y : List ℕ). gap ++ (n ++ (left ++ 61 ∷ (right ++ q ∷ y)))) (bits_are (length cs) q cs ∙ ap (λ (y : List ℕ). spelt_bits b.0 y) (after_is (q ∷ []) b.1 x h))))

pub attr_sound : (d : List ℕ) → AttrSound d (attr_at d)
unfolding attr_at
attr_sound d =
    let g = span is_white d in
    let n = span is_name_char g.1 in
    let l = span is_white n.1 in
    attr_bind d (after (codes "=") l.1) (attr_right g.0 n.0 l.0) (λ x h. quote_sound d g.0 n.0 l.0 (span is_white x) (span_is is_white d ∙ ap (λ (y : List ℕ). g.0 ++ y) (span_is is_name_char g.1 ∙ ap (λ (y : List ℕ). n.0 ++ y) (span_is is_white n.1 ∙ ap (λ (y : List ℕ). l.0 ++ y) (after_is (codes "=") l.1 x h ∙ ap (λ (y : List ℕ). 61 ∷ y) (span_is is_white x))))))

attrs_one : (cs : List ℕ) (go : List ℕ → List Attribute × List ℕ) (o : Option (Attribute × List ℕ)) → ((x : Attribute × List ℕ) → o ≡ Some x → cs ≡ spelt_attribute x.0 x.1) → ((ds : List ℕ) → ds ≡ spelt_attributes (go ds).0 (go ds).1) → cs ≡ spelt_attributes (more go cs o).0 (more go cs o).1
attrs_one cs go None one all = refl
attrs_one cs go (Some x) one all = one x refl ∙ ap (λ (y : List ℕ). spelt_attribute x.0 y) (all x.1)

attrs_are : (n : ℕ) (cs : List ℕ) → cs ≡ spelt_attributes (attrs_at n cs).0 (attrs_at n cs).1
attrs_are zero cs = refl
attrs_are (suc n) cs = attrs_one cs (λ r. attrs_at n r) (attr_at cs) (λ x h. attr_sound cs x h) (λ ds. attrs_are n ds)

-- tags
tag_end_sound : (d n : List ℕ) (as_ : List Attribute) (x : List ℕ × List ℕ) → d ≡ 60 ∷ (n ++ spelt_attributes as_ (x.0 ++ x.1)) → Sound d (tag_end n as_ x)
tag_end_sound d n as_ (gap, []) spells = sound_none d
tag_end_sound d n as_ (gap, c ∷ cs) spells = sound_if d (c == 62) (kept (start_tag n as_ gap) cs) _
    (λ e. sound_kept d (start_tag n as_ gap) cs (spells ∙ ap (λ (y : ℕ). 60 ∷ (n ++ spelt_attributes as_ (gap ++ y ∷ cs))) (eqb-true c 62 e)) refl)
    (λ o. sound_bind d (after (codes "/>") (c ∷ cs)) (kept (empty_tag n as_ gap)) (λ x h. sound_kept d (empty_tag n as_ gap) x (spells ∙ ap (λ (y : List ℕ). 60 ∷ (n ++ spelt_attributes as_ (gap ++ y))) (after_is (codes "/>") (c ∷ cs) x h)) refl))

tag_sound : (cs : List ℕ) → Sound (60 ∷ cs) (tag_at cs)
tag_sound cs =
    let n = span is_name_char cs in
    let a = attrs_at (length n.1) n.1 in
    tag_end_sound (60 ∷ cs) n.0 a.0 (span is_white a.1) (ap (λ (y : List ℕ). 60 ∷ y) (span_is is_name_char cs ∙ ap (λ (y : List ℕ). n.0 ++ y) (attrs_are (length n.1) n.1 ∙ ap (λ (y : List ℕ). spelt_attributes a.0 y) (span_is is_white a.1))))

declaration_sound : (d cs : List ℕ) → d ≡ codes "<?xml" ++ cs → Sound d (declaration_attrs (attrs_at (length cs) cs))
declaration_sound d cs spells =
    let a = attrs_at (length cs) cs in
    let g = span is_white a.1 in
    sound_bind d (after (codes "?>") g.1) (kept (declaration a.0 g.0)) (λ x h. sound_kept d (declaration a.0 g.0) x (spells ∙ ap (λ (y : List ℕ). codes "<?xml" ++ y) (attrs_are (length cs) cs ∙ ap (λ (y : List ℕ). spelt_attributes a.0 y) (span_is is_white a.1 ∙ ap (λ (y : List ℕ). g.0 ++ y) (after_is (codes "?>") g.1 x h)))) refl)

named_sound : (d : List ℕ) (n : List ℕ × List ℕ) → d ≡ 60 ∷ 63 ∷ (n.0 ++ n.1) → Sound d (instruction_name n)
named_sound d n spells = sound_if d (same n.0 (codes "xml")) _ (cut (codes "?>") n.1 >>= as_instruction n.0)
    (λ e. declaration_sound d n.1 (spells ∙ ap (λ (y : List ℕ). 60 ∷ 63 ∷ (y ++ n.1)) (same_is n.0 (codes "xml") e)))
    (λ o. sound_bind d (cut (codes "?>") n.1) (as_instruction n.0) (λ x h. sound_kept d (instruction n.0 x.0) x.1 (spells ∙ ap (λ (y : List ℕ). 60 ∷ 63 ∷ (n.0 ++ y)) (cut_is (codes "?>") n.1 x h)) refl))

instruction_sound : (cs : List ℕ) → Sound (60 ∷ 63 ∷ cs) (instruction_at cs)
instruction_sound cs = named_sound (60 ∷ 63 ∷ cs) (span is_name_char cs) (ap (λ (y : List ℕ). 60 ∷ 63 ∷ y) (span_is is_name_char cs))

bang_sound : (cs : List ℕ) → Sound (60 ∷ 33 ∷ cs) (bang_at cs)
bang_sound [] = sound_none (60 ∷ 33 ∷ [])
bang_sound (c ∷ cs) = sound_if (60 ∷ 33 ∷ c ∷ cs) (c == 45) (after (codes "-") cs >>= in_comment) _
    (λ e. subst (λ (y : ℕ). Sound (60 ∷ 33 ∷ y ∷ cs) (after (codes "-") cs >>= in_comment)) (sym (eqb-true c 45 e)) (sound_bind (60 ∷ 33 ∷ 45 ∷ cs) (after (codes "-") cs) in_comment (λ x h. subst (λ (z : List ℕ). Sound (60 ∷ 33 ∷ 45 ∷ z) (in_comment x)) (sym (after_is (codes "-") cs x h)) (comment_sound x))))
    (λ o. sound_bind (60 ∷ 33 ∷ c ∷ cs) (after (codes "[CDATA[") (c ∷ cs)) in_cdata (λ x h. subst (λ (z : List ℕ). Sound (60 ∷ 33 ∷ z) (in_cdata x)) (sym (after_is (codes "[CDATA[") (c ∷ cs) x h)) (cdata_sound x)))

markup_sound : (cs : List ℕ) → Sound (60 ∷ cs) (markup_at cs)
markup_sound [] = sound_none (60 ∷ [])
markup_sound (c ∷ cs) = sound_if (60 ∷ c ∷ cs) (c == 47) (end_at cs) _ (λ e. subst (λ (x : ℕ). Sound (60 ∷ x ∷ cs) (end_at cs)) (sym (eqb-true c 47 e)) (end_sound cs))
    (λ o. sound_if (60 ∷ c ∷ cs) (c == 33) (bang_at cs) _ (λ e. subst (λ (x : ℕ). Sound (60 ∷ x ∷ cs) (bang_at cs)) (sym (eqb-true c 33 e)) (bang_sound cs))
    (λ o2. sound_if (60 ∷ c ∷ cs) (c == 63) (instruction_at cs) _ (λ e. subst (λ (x : ℕ). Sound (60 ∷ x ∷ cs) (instruction_at cs)) (sym (eqb-true c 63 e)) (instruction_sound cs)) (λ o3. tag_sound (c ∷ cs))))

pub read_is_spelt : (d : List ℕ) → Sound d (piece_at d)
unfolding piece_at
read_is_spelt [] = sound_none []
read_is_spelt (c ∷ cs) = sound_if (c ∷ cs) (c == 60) (markup_at cs) _ (λ e. subst (λ (x : ℕ). Sound (x ∷ cs) (markup_at cs)) (sym (eqb-true c 60 e)) (markup_sound cs)) (λ o. sound_if (c ∷ cs) (c == 38) (reference_at cs) (char_at c cs) (λ e. subst (λ (x : ℕ). Sound (x ∷ cs) (reference_at cs)) (sym (eqb-true c 38 e)) (reference_sound cs)) (λ o2. char_sound c cs))
