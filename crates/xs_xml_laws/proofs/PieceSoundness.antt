-- What is read is spelt.
use Rattle.std.proofs.Common.{◌≡◌, ℕ, List, [], ◌∷◌, ◌++◌, length, drop, Some, None, true, false, Bool, ◌&&◌, if◌then◌else◌, ◌==◌, codes, refl, sym, ◌∙◌, ap, subst, arith, eqb-true}
use Rattle.std.specs.declared.option.Option.{Option}
use Rattle.std.proofs.lemmas.Bool.Decides.{nat_tests}
use Rattle.xs_xml_laws.specs.Tables.{is_name_char, is_white}
use Rattle.xs_xml_laws.specs.Piece.{Piece, character, line_end, reference, end_tag, comment, cdata, spelt, is_piece, starts}
use Rattle.xs_xml_laws.specs.Legal.{is_alone}
use Rattle.xs_xml_laws.specs.Scan.{span, after, joined, cut, Found, ◌>>=◌, kept, kept_if, char_at, as_reference, reference_at, as_end, end_at, as_cdata, in_cdata, as_comment, comment_end, in_comment}
use Rattle.xs_class.proofs.Truth.{and_true}
use Rattle.xs_class.proofs.Lists.{some_inj}

pub record IsRead (d : List ℕ) (r : Piece × List ℕ) : Type 0 where
  pub spells : d ≡ spelt r.0 r.1
  pub is : is_piece r.0 ≡ true
  pub alone : is_alone r.0 r.1 ≡ true

abbrev pub Sound : List ℕ → Found → Type 0
Sound d f = (r : Piece × List ℕ) → f ≡ Some r → IsRead d r

pub sound_none : (d : List ℕ) → Sound d None
sound_none d r is = absurd (cc)

pub sound_if : (d : List ℕ) (t : Bool) (a b : Found) → (t ≡ true → Sound d a) → (t ≡ false → Sound d b) → Sound d (if t then a else b)
sound_if d true a b yes_ no_ = yes_ refl
sound_if d false a b yes_ no_ = no_ refl

pub sound_bind : {A : Type 0} (d : List ℕ) (o : Option A) (f : A → Found) → ((x : A) → o ≡ Some x → Sound d (f x)) → Sound d (o >>= f)
sound_bind d None f each = sound_none d
sound_bind d (Some x) f each = each x refl

sound_kept_if : (d : List ℕ) (t : Bool) (p : Piece) (rest : List ℕ) → is_piece p ≡ t → d ≡ spelt p rest → is_alone p rest ≡ true → Sound d (kept_if t p rest)
sound_kept_if d false p rest is spells alone = sound_none d
sound_kept_if d true p rest is spells alone = λ r e. subst (λ (x : Piece × List ℕ). IsRead d x) (some_inj (p, rest) r e) (record { spells = spells; is = is; alone = alone })

pub sound_kept : (d : List ℕ) (p : Piece) (rest : List ℕ) → d ≡ spelt p rest → is_alone p rest ≡ true → Sound d (kept p rest)
sound_kept d p rest spells alone = sound_kept_if d (is_piece p) p rest refl spells alone

-- the steps
cons_same : (a b : ℕ) (xs ys : List ℕ) → a ≡ b → xs ≡ ys → (a ∷ xs) ≡ b ∷ ys
cons_same a b xs ys e f = cc

span_one : (f : ℕ → Bool) (c : ℕ) (cs : List ℕ) (r : List ℕ × List ℕ) (t : Bool) → cs ≡ r.0 ++ r.1 → (c ∷ cs) ≡ (if◌then◌else◌ {A = List ℕ × List ℕ} t (c ∷ r.0, r.1) ([], c ∷ cs)).0 ++ (if◌then◌else◌ {A = List ℕ × List ℕ} t (c ∷ r.0, r.1) ([], c ∷ cs)).1
span_one f c cs r true is = ap (λ (x : List ℕ). c ∷ x) is
span_one f c cs r false is = refl

pub span_is : (f : ℕ → Bool) (cs : List ℕ) → cs ≡ (span f cs).0 ++ (span f cs).1
span_is f [] = refl
span_is f (c ∷ cs) = span_one f c cs (span f cs) (f c) (span_is f cs)

after_one : (p c : ℕ) (ps cs rest : List ℕ) (t : Bool) → (p == c) ≡ t → (if t then after ps cs else None) ≡ Some rest → (after ps cs ≡ Some rest → cs ≡ ps ++ rest) → (c ∷ cs) ≡ p ∷ (ps ++ rest)
after_one p c ps cs rest true e is tail = cons_same c p cs (ps ++ rest) (sym (eqb-true p c e)) (tail is)
after_one p c ps cs rest false e is tail = absurd (cc)

pub after_is : (ps cs rest : List ℕ) → after ps cs ≡ Some rest → cs ≡ ps ++ rest
after_is [] cs rest is = some_inj cs rest is
after_is (p ∷ ps) [] rest is = absurd (cc)
after_is (p ∷ ps) (c ∷ cs) rest is = after_one p c ps cs rest (p == c) refl is (after_is ps cs rest)

starts_is : (ps cs : List ℕ) → starts ps cs ≡ true → cs ≡ ps ++ drop (length ps) cs
starts_is [] cs is = refl
starts_is (p ∷ ps) [] is = absurd (cc)
starts_is (p ∷ ps) (c ∷ cs) is = let a = and_true (p == c) (starts ps cs) is in cons_same c p cs (ps ++ drop (length ps) cs) (sym (eqb-true p c a.0)) (starts_is ps cs a.1)

cut_one : (d : List ℕ) (c : ℕ) (cs : List ℕ) (o : Option (List ℕ × List ℕ)) (r : List ℕ × List ℕ) (t : Bool) → starts d (c ∷ cs) ≡ t → ((x : List ℕ × List ℕ) → o ≡ Some x → cs ≡ x.0 ++ (d ++ x.1)) → (if t then Some ([], drop (length d) (c ∷ cs)) else joined c o) ≡ Some r → (c ∷ cs) ≡ r.0 ++ (d ++ r.1)
cut_one d c cs o r true e tail is = subst (λ (x : List ℕ × List ℕ). (c ∷ cs) ≡ x.0 ++ (d ++ x.1)) (some_inj ([], drop (length d) (c ∷ cs)) r is) (starts_is d (c ∷ cs) e)
cut_one d c cs None r false e tail is = absurd (cc)
cut_one d c cs (Some x) r false e tail is = subst (λ (y : List ℕ × List ℕ). (c ∷ cs) ≡ y.0 ++ (d ++ y.1)) (some_inj (c ∷ x.0, x.1) r is) (ap (λ (y : List ℕ). c ∷ y) (tail x refl))

pub cut_is : (d cs : List ℕ) (r : List ℕ × List ℕ) → cut d cs ≡ Some r → cs ≡ r.0 ++ (d ++ r.1)
cut_is d [] r is = absurd (cc)
cut_is d (c ∷ cs) r is = cut_one d c cs (cut d cs) r (starts d (c ∷ cs)) refl (λ x h. cut_is d cs x h) is

-- the kinds
pub reference_sound : (cs : List ℕ) → Sound (38 ∷ cs) (reference_at cs)
reference_sound cs = sound_bind (38 ∷ cs) (cut (codes ";") cs) as_reference (λ x h. sound_kept (38 ∷ cs) (reference x.0) x.1 (ap (λ (y : List ℕ). 38 ∷ y) (cut_is (codes ";") cs x h)) refl)

pub end_sound : (cs : List ℕ) → Sound (60 ∷ 47 ∷ cs) (end_at cs)
end_sound cs =
    let n = span is_name_char cs in
    let g = span is_white n.1 in
    sound_bind (60 ∷ 47 ∷ cs) (after (codes ">") g.1) (as_end n.0 g.0) (λ x h. sound_kept (60 ∷ 47 ∷ cs) (end_tag n.0 g.0) x (ap (λ (y : List ℕ). 60 ∷ 47 ∷ y) (span_is is_name_char cs ∙ ap (λ (y : List ℕ). n.0 ++ y) (span_is is_white n.1 ∙ ap (λ (y : List ℕ). g.0 ++ y) (after_is (codes ">") g.1 x h)))) refl)

pub cdata_sound : (cs : List ℕ) → Sound (codes "<![CDATA[" ++ cs) (in_cdata cs)
cdata_sound cs = sound_bind (codes "<![CDATA[" ++ cs) (cut (codes "]]>") cs) as_cdata (λ x h. sound_kept (codes "<![CDATA[" ++ cs) (cdata x.0) x.1 (ap (λ (y : List ℕ). codes "<![CDATA[" ++ y) (cut_is (codes "]]>") cs x h)) refl)

pub comment_sound : (cs : List ℕ) → Sound (codes "<!--" ++ cs) (in_comment cs)
comment_sound cs = sound_bind (codes "<!--" ++ cs) (cut (codes "--") cs) comment_end (λ x h. sound_bind (codes "<!--" ++ cs) (after (codes ">") x.1) (as_comment x.0) (λ y k. sound_kept (codes "<!--" ++ cs) (comment x.0) y (ap (λ (z : List ℕ). codes "<!--" ++ z) (cut_is (codes "--") cs x h ∙ ap (λ (z : List ℕ). x.0 ++ 45 ∷ 45 ∷ z) (after_is (codes ">") x.1 y k))) refl))

alone_end : (c : ℕ) → is_alone (character c) [] ≡ true
alone_end c = grind (arith, nat_tests)

alone_more : (c d : ℕ) (cs : List ℕ) → (c == 13 && d == 10) ≡ false → is_alone (character c) (d ∷ cs) ≡ true
alone_more c d cs not_here = grind (arith, nat_tests, not_here)

pub char_sound : (c : ℕ) (cs : List ℕ) → Sound (c ∷ cs) (char_at c cs)
char_sound c [] = sound_kept (c ∷ []) (character c) [] refl (alone_end c)
char_sound c (d ∷ cs) = sound_if (c ∷ d ∷ cs) (c == 13 && d == 10) (Some (line_end, cs)) (kept (character c) (d ∷ cs)) (λ e. crlf (and_true (c == 13) (d == 10) e)) (λ e. sound_kept (c ∷ d ∷ cs) (character c) (d ∷ cs) refl (alone_more c d cs e))
  where
    crlf : ((c == 13) ≡ true) × ((d == 10) ≡ true) → Sound (c ∷ d ∷ cs) (Some (line_end, cs))
    crlf e r is = subst (λ (x : Piece × List ℕ). IsRead (c ∷ d ∷ cs) x) (some_inj (line_end, cs) r is) (record { spells = cons_same c 13 (d ∷ cs) (10 ∷ cs) (eqb-true c 13 e.0) (cons_same d 10 cs cs (eqb-true d 10 e.1) refl); is = refl; alone = refl })
