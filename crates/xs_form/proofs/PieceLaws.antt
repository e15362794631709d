-- What the reader keeps of the pieces at the front of a text.
use Rattle.std.proofs.Common.{◌≡◌, ℕ, List, [], ◌∷◌, ◌++◌, map, codes, length, drop, Bool, true, false, ◌==◌, ◌&&◌, if◌then◌else◌, Some, None, refl, sym, ◌∙◌, ap, subst, arith}
use Rattle.std.specs.declared.option.Option.{Option}
use Rattle.std.specs.Option.{option_map}
use Rattle.std.proofs.lemmas.Bool.Decides.{nat_tests}
use Rattle.xs_xml_laws.specs.Tables.{is_char, is_white, is_name_char}
use Rattle.xs_xml_laws.specs.Piece.{Piece, Attribute, character, line_end, start_tag, empty_tag, is_piece, is_name, all_of, starts, ends_not, same, lower, is_apart, are_attributes, distinct}
use Rattle.xs_xml_laws.specs.Scan.{after, span, cut, joined, ◌>>=◌, kept, char_at, end_at, in_cdata, in_comment, attrs_at, tag_end, tag_name, tag_at}
use Rattle.xs_class.proofs.Lists.{some_inj}
use Rattle.xs_xml_laws.proofs.PieceSoundness.{cut_is}
use Rattle.xs_xml_laws.proofs.Steps.{run_all, cut_free}
use Rattle.xs_form.specs.Attributes.{Held, held}
use Rattle.xs_form.specs.Sorted.{held_distinct, held_in_order, keyed, sorted_entries}
use Rattle.xs_form.specs.Seen.{Seen, found, ends, letter, aside, section, past_feed, instruction_body, tag_ends, empty_end, made}
use Rattle.xs_form.proofs.SortedLaws.{held_is_distinct}

-- a line end
pub return_is : (rest : List ℕ) → option_map found (char_at 13 rest) ≡ Some (letter 10, past_feed rest)
unfolding is_char
return_is [] = refl
return_is (c ∷ cs) = by (c == 10)
  where
    by : (t : Bool) → option_map found (if t then Some (line_end, cs) else kept (character 13) (c ∷ cs)) ≡ Some (letter 10, if t then cs else c ∷ cs)
    by true = refl
    by false = refl

-- an end tag, a CDATA section and a comment
pub end_found : (cs n r g more rest : List ℕ) → (n, r) ≡ span is_name_char cs → (g, more) ≡ span is_white r → Some rest ≡ after (codes ">") more → is_name n ≡ true → Some (ends n, rest) ≡ option_map found (end_at cs)
end_found cs n r g more rest e1 e2 e3 is =
    let all : all_of is_white g ≡ true = subst (λ (x : List ℕ × List ℕ). all_of is_white x.0 ≡ true) (sym e2) (run_all is_white r) in
    rw (← e1, ← e2, ← e3, is, all) refl

pub section_found : (cs body rest : List ℕ) → Some (body, rest) ≡ cut (codes "]]>") cs → all_of is_char body ≡ true → Some (section body, rest) ≡ option_map found (in_cdata cs)
section_found cs body rest e all =
    let free = cut_free (codes "]]>") cs (body, rest) refl (sym e) in
    rw (← e, all, free) refl

-- what stands before the first -- does not end with -
ends_one : (c : ℕ) (cs b rest : List ℕ) → cs ≡ b ++ 45 ∷ 45 ∷ rest → starts (codes "--") (c ∷ cs) ≡ false → ends_not 45 b ≡ true → ends_not 45 (c ∷ b) ≡ true
ends_one c cs [] rest is free end = let h : (45 == c && true) ≡ false = subst (λ (x : List ℕ). starts (codes "--") (c ∷ x) ≡ false) is free in grind (arith, nat_tests, h)
ends_one c cs (d ∷ ds) rest is free end = end

dash_one : (c : ℕ) (cs : List ℕ) (o : Option (List ℕ × List ℕ)) (r : List ℕ × List ℕ) (t : Bool) → starts (codes "--") (c ∷ cs) ≡ t → ((x : List ℕ × List ℕ) → o ≡ Some x → (cs ≡ x.0 ++ 45 ∷ 45 ∷ x.1) × (ends_not 45 x.0 ≡ true)) → (if t then Some ([], drop 2 (c ∷ cs)) else joined c o) ≡ Some r → ends_not 45 r.0 ≡ true
dash_one c cs o r true e tail is = subst (λ (x : List ℕ × List ℕ). ends_not 45 x.0 ≡ true) (some_inj ([], drop 2 (c ∷ cs)) r is) refl
dash_one c cs None r false e tail is = absurd (cc)
dash_one c cs (Some x) r false e tail is = let p = tail x refl in subst (λ (y : List ℕ × List ℕ). ends_not 45 y.0 ≡ true) (some_inj (c ∷ x.0, x.1) r is) (ends_one c cs x.0 x.1 p.0 e p.1)

no_dash : (cs : List ℕ) (r : List ℕ × List ℕ) → cut (codes "--") cs ≡ Some r → ends_not 45 r.0 ≡ true
no_dash [] r is = absurd (cc)
no_dash (c ∷ cs) r is = dash_one c cs (cut (codes "--") cs) r (starts (codes "--") (c ∷ cs)) refl (λ x h. (cut_is (codes "--") cs x h, no_dash cs x h)) is

pub comment_found : (cs body more rest : List ℕ) → Some (body, more) ≡ cut (codes "--") cs → Some rest ≡ after (codes ">") more → all_of is_char body ≡ true → Some (aside, rest) ≡ option_map found (in_comment cs)
comment_found cs body more rest e1 e2 all =
    let free = cut_free (codes "--") cs (body, more) refl (sym e1) in
    let end = no_dash cs (body, more) (sym e1) in
    rw (← e1, ← e2, all, free, end) refl

-- a tag: its name, its attributes and its end
abbrev pub made_of : List ℕ → Option (List (List ℕ × List ℕ)) → Option (Bool × List ℕ) → Option (Seen × List ℕ)
made_of n None e = None
made_of n (Some es) e = option_map (made n es) e

kept_tag : (x y : Bool) (p : Piece) (rest : List ℕ) → is_piece p ≡ (x && (true && (y && true))) → option_map found (kept p rest) ≡ (if x then (if y then Some (found (p, rest)) else None) else None)
kept_tag true true p rest is = rw is refl
kept_tag true false p rest is = rw is refl
kept_tag false y p rest is = rw is refl

none_both : (x y : Bool) → ◌≡◌ {A = Option (Seen × List ℕ)} None (if x then (if y then None else None) else None)
none_both true true = refl
none_both true false = refl
none_both false y = refl

tag_test : (n : List ℕ) (as_ : List Attribute) (gap : List ℕ) → are_attributes as_ ≡ true → all_of is_white gap ≡ true → (is_name n && (are_attributes as_ && (distinct as_ && all_of is_white gap))) ≡ (is_name n && (true && (distinct as_ && true)))
tag_test n as_ gap are white = rw (are, white) refl

end_is : (n : List ℕ) (as_ : List Attribute) (gap rest : List ℕ) → are_attributes as_ ≡ true → all_of is_white gap ≡ true → option_map found (tag_end n as_ (gap, rest)) ≡ (if is_name n then (if distinct as_ then option_map (made n (map keyed (held_in_order (map held as_)))) (tag_ends rest) else None) else None)
end_is n as_ gap [] are white = none_both (is_name n) (distinct as_)
end_is n as_ gap (c ∷ cs) are white = by (c == 62) (after (codes "/>") (c ∷ cs))
  where
    by : (t : Bool) (o : Option (List ℕ)) → option_map found (if t then kept (start_tag n as_ gap) cs else (o >>= kept (empty_tag n as_ gap))) ≡ (if is_name n then (if distinct as_ then option_map (made n (map keyed (held_in_order (map held as_)))) (if t then Some (false, cs) else option_map empty_end o) else None) else None)
    by true o = kept_tag (is_name n) (distinct as_) (start_tag n as_ gap) cs (tag_test n as_ gap are white)
    by false None = none_both (is_name n) (distinct as_)
    by false (Some rest) = kept_tag (is_name n) (distinct as_) (empty_tag n as_ gap) rest (tag_test n as_ gap are white)

abbrev tag_made : List ℕ → List Held → Option (Bool × List ℕ) → Option (Seen × List ℕ)
tag_made n list e = if held_distinct list then option_map (made n (map keyed (held_in_order list))) e else None

made_is : (n : List ℕ) (list : List Held) (o : Option (List (List ℕ × List ℕ))) (e : Option (Bool × List ℕ)) → o ≡ sorted_entries list → made_of n o e ≡ tag_made n list e
made_is n list o e is = ap (λ (x : Option (List (List ℕ × List ℕ))). made_of n x e) is ∙ by (held_distinct list)
  where
    by : (t : Bool) → made_of n (if t then Some (map keyed (held_in_order list)) else None) e ≡ (if t then option_map (made n (map keyed (held_in_order list))) e else None)
    by true = refl
    by false = refl

pub tag_is : (text n more : List ℕ) (list : List Held) (rest gap last : List ℕ) (o : Option (List (List ℕ × List ℕ))) (e : Option (Bool × List ℕ)) → (n, more) ≡ span is_name_char text → list ≡ map held (attrs_at (length more) more).0 → rest ≡ (attrs_at (length more) more).1 → are_attributes (attrs_at (length more) more).0 ≡ true → (gap, last) ≡ span is_white rest → is_name n ≡ true → e ≡ tag_ends last → o ≡ sorted_entries list → made_of n o e ≡ option_map found (tag_at text)
tag_is text n more list rest gap last o e e1 e2 e3 are e4 is e5 e6 =
    let a = attrs_at (length more) more in
    let white : all_of is_white gap ≡ true = subst (λ (x : List ℕ × List ℕ). all_of is_white x.0 ≡ true) (sym e4) (run_all is_white rest) in
    let here : tag_at text ≡ tag_end n a.0 (gap, last) = ap tag_name (sym e1) ∙ ap (tag_end n a.0) (ap (span is_white) (sym e3) ∙ sym e4) in
    let there : option_map found (tag_end n a.0 (gap, last)) ≡ (if distinct a.0 then option_map (made n (map keyed (held_in_order (map held a.0)))) (tag_ends last) else None) = end_is n a.0 gap last are white ∙ rw is refl in
    made_is n list o e e6
    ∙ ap (λ (x : List Held). tag_made n x e) e2
    ∙ ap (tag_made n (map held a.0)) e5
    ∙ rw (held_is_distinct a.0) (sym there)
    ∙ ap (option_map found) (sym here)

-- a tag by whether its end is that of an empty tag
pub tag_ended : (text n more : List ℕ) (list : List Held) (rest gap last left : List ℕ) (o : Option (List (List ℕ × List ℕ))) (b t : Bool) → (n, more) ≡ span is_name_char text → list ≡ map held (attrs_at (length more) more).0 → rest ≡ (attrs_at (length more) more).1 → are_attributes (attrs_at (length more) more).0 ≡ true → (gap, last) ≡ span is_white rest → is_name n ≡ true → Some (b, left) ≡ tag_ends last → o ≡ sorted_entries list → b ≡ t → made_of n o (Some (t, left)) ≡ option_map found (tag_at text)
tag_ended text n more list rest gap last left o b t e1 e2 e3 are e4 is e5 e6 e = subst (λ (x : Bool). made_of n o (Some (x, left)) ≡ option_map found (tag_at text)) e (tag_is text n more list rest gap last o (Some (b, left)) e1 e2 e3 are e4 is e5 e6)

-- an instruction
pub instruction_found : (n text body rest : List ℕ) → Some (body, rest) ≡ cut (codes "?>") text → is_name n ≡ true → same (map lower n) (codes "xml") ≡ false → is_apart body ≡ true → all_of is_char body ≡ true → Some (aside, rest) ≡ option_map found (instruction_body n text)
instruction_found n text body rest e named other apart all =
    let free = cut_free (codes "?>") text (body, rest) refl (sym e) in
    rw (← e, named, other, apart, all, free) refl
