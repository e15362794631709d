-- Two pairs of grammars of one sheet agree: what their nonterminals derive, and the lines of rules.
use Rattle.std.proofs.Common.{◌≡◌, ◌⊎◌, ◌∙◌, ◌<◌, inl, inr, ap, sym, refl, subst, ℕ, suc, zero, List, [], ◌∷◌, length, map, get_or, Some, None, arith, slice_get}
use Rattle.std.specs.List.{Contains}
use Rattle.std.specs.declared.option.Option.{Option}
use Rattle.std.specs.declared.cmp.Ordering.TheVariants.{Less, Greater}
use Rattle.std.specs.Ordering.{ordering_reverse}
use Rattle.std.specs.Prelude.{◌↔◌, encode_utf8_all}
use Rattle.std.proofs.lemmas.Cmp.{nat_list_cmp_total}
use Rattle.xs_class.specs.Ordered.{IsBefore, IsOrdered, AreNamesOf}
use Rattle.xs_class.specs.declared.side.Side.{Side}
use Rattle.xs_class.specs.declared.side.Side.TheVariants.{Text, Xml}
use Rattle.xs_regex.specs.Matches.{Matches}
use Rattle.xs_regex.proofs.Meanings.{same_words}
use Rattle.xs_sheet.specs.declared.sheet.Sheet.{Sheet}
use Rattle.xs_sheet.specs.declared.unit.Unit.{Unit}
use Rattle.xs_sheet.specs.declared.unit.Unit.TheVariants as V
use Rattle.xs_gram.specs.declared.parts.GItem.{GItem}
use Rattle.xs_gram.specs.declared.parts.GItem.TheVariants.{Fixed, Term, Non, Skip}
use Rattle.xs_gram.specs.declared.parts.RulePart.{RulePart}
use Rattle.xs_gram.specs.declared.parts.SkipPart.{SkipPart}
use Rattle.xs_gram.specs.declared.parts.Terminal.{Terminal}
use Rattle.xs_gram.specs.declared.parts.Ignorable.{Ignorable}
use Rattle.xs_gram.specs.Building.{skip_part}
use Rattle.xs_gram.specs.Derivations.{Parts, done, fixed, leaf, skip, sub, FitsItems}
use Rattle.xs_gram.specs.Grammar.{Grammar, no_rule, no_terminal, no_ignorable, items, IsRuleOf, IsTermWord, IsSkipWord}
use Rattle.xs_gram.specs.Sound.{IsNullable, IsProductive, IsNullableItem, LeadsTo, LeadsOn, once, onward}
use Rattle.xs_pair.specs.Grammars.{Pair, IsPairOf, IsGramOf, AreSkipsOf, numbering, rule_parts}
use Rattle.xs_pair.specs.Listing.{rules_of}
use Rattle.xs_pair.specs.Verdict.{IsFirstLine}
use Rattle.xs_pair.proofs.Alike.{term_words, regex_at}
use Rattle.xs_wf.specs.Nonterminals.{IsUnproductive, IsLooping, IsFirstRule, IsFirstLineOf, FailsAmongNons}

-- names in order are known by their members
never_both : Less ≡ Greater → ⊥
never_both e = cc

both_before : (a b : List ℕ) → IsBefore a b → IsBefore b a → ⊥
both_before a b one other = never_both (sym one ∙ nat_list_cmp_total.antisymm (encode_utf8_all a) (encode_utf8_all b) ∙ ap ordering_reverse other)

same_default : {X : Type 0} (xs : List X) (k : ℕ) (d e : X) → k < length xs → get_or xs k d ≡ get_or xs k e
same_default [] k d e lt = absurd (omega arith)
same_default (x ∷ xs) zero d e lt = refl
same_default (x ∷ xs) (suc k) d e lt = same_default xs k d e (omega arith)

first_in : (x : List ℕ) (xs : List (List ℕ)) → Contains (x ∷ xs) x
first_in x xs = (0, omega arith, refl)

rest_in : (x n : List ℕ) (xs : List (List ℕ)) → Contains xs n → Contains (x ∷ xs) n
rest_in x n xs (k, lt, is) = (suc k, omega arith, is)

in_cases : (x n : List ℕ) (xs : List (List ℕ)) → Contains (x ∷ xs) n → (n ≡ x) ⊎ Contains xs n
in_cases x n xs (zero, lt, is) = inl (sym is)
in_cases x n xs (suc k, lt, is) = inr (k, omega arith, is)

before_rest : (x n : List ℕ) (xs : List (List ℕ)) → IsOrdered (x ∷ xs) → Contains xs n → IsBefore x n
before_rest x n xs ordered (k, lt, is) =
    subst (λ m. IsBefore x m) (same_default xs k x n lt ∙ is) (ordered 0 (suc k) x (omega arith) (omega arith))

rest_ordered : (x : List ℕ) (xs : List (List ℕ)) → IsOrdered (x ∷ xs) → IsOrdered xs
rest_ordered x xs ordered i j d lt le = ordered (suc i) (suc j) d (omega arith) (omega arith)

none_in : (n : List ℕ) → Contains [] n → ⊥
none_in n (k, lt, is) = omega arith

-- a member of one tail is one of the other, where the heads are the same
tail_in : (x y : List ℕ) (xs ys : List (List ℕ)) → x ≡ y → IsOrdered (x ∷ xs) → ((n : List ℕ) → Contains (x ∷ xs) n → Contains (y ∷ ys) n) → (n : List ℕ) → Contains xs n → Contains ys n
tail_in x y xs ys head ordered same n there = by_case (in_cases y n ys (same n (rest_in x n xs there)))
  where
    by_case : (n ≡ y) ⊎ Contains ys n → Contains ys n
    by_case (inl e) = let itself : IsBefore x x = subst (λ m. IsBefore x m) (e ∙ sym head) (before_rest x n xs ordered there) in absurd (both_before x x itself itself)
    by_case (inr later) = later

ordered_same : (xs ys : List (List ℕ)) → IsOrdered xs → IsOrdered ys → ((n : List ℕ) → Contains xs n ↔ Contains ys n) → xs ≡ ys
ordered_same [] [] ox oy same = refl
ordered_same [] (y ∷ ys) ox oy same = absurd (none_in y ((same y).1 (first_in y ys)))
ordered_same (x ∷ xs) [] ox oy same = absurd (none_in x ((same x).0 (first_in x xs)))
ordered_same (x ∷ xs) (y ∷ ys) ox oy same =
    let head : x ≡ y = heads (in_cases y x ys ((same x).0 (first_in x xs))) (in_cases x y xs ((same y).1 (first_in y ys))) in
    let rest : xs ≡ ys = ordered_same xs ys (rest_ordered x xs ox) (rest_ordered y ys oy) (λ n. (tail_in x y xs ys head ox (λ m. (same m).0) n, tail_in y x ys xs (sym head) oy (λ m. (same m).1) n)) in
    rw (head, rest) refl
  where
    heads : (x ≡ y) ⊎ Contains ys x → (y ≡ x) ⊎ Contains xs y → x ≡ y
    heads (inl e) other = e
    heads (inr later) (inl e) = sym e
    heads (inr later) (inr later') = absurd (both_before x y (before_rest x y xs ox later') (before_rest y x ys oy later))

pub names_same : (list ms ns : List (List ℕ)) → AreNamesOf list ms → AreNamesOf list ns → ms ≡ ns
names_same list ms ns one two = ordered_same ms ns one.ordered two.ordered (λ n. (λ h. (two.same n).1 ((one.same n).0 h), λ h. (one.same n).1 ((two.same n).0 h)))

-- ignorables of the same units have the same words
skip_words : (us : List Unit) (js ks : List SkipPart) → AreSkipsOf us js → AreSkipsOf us ks → (k : ℕ) (d : SkipPart) (w : List ℕ) → Matches (get_or js k d).regex w → Matches (get_or ks k d).regex w
skip_words [] [] [] one two k d w m = m
skip_words [] (i ∷ js) ks one two k d w m = absurd one
skip_words [] [] (j ∷ ks) one two k d w m = absurd two
skip_words (V.Terminal name pattern regex line ∷ us) js ks one two k d w m = skip_words us js ks one two k d w m
skip_words (V.Ignorable name pattern regex normal line ∷ us) [] ks one two k d w m = absurd one
skip_words (V.Ignorable name pattern regex normal line ∷ us) (i ∷ js) [] one two k d w m = absurd two
skip_words (V.Ignorable name pattern regex normal line ∷ us) (i ∷ js) (j ∷ ks) one two zero d w m = same_words pattern i.regex j.regex one.0 two.0 w m
skip_words (V.Ignorable name pattern regex normal line ∷ us) (i ∷ js) (j ∷ ks) one two (suc k) d w m = skip_words us js ks one.2 two.2 k d w m
skip_words (V.Fence left right line ∷ us) js ks one two k d w m = skip_words us js ks one two k d w m
skip_words (V.Production name left right line ∷ us) js ks one two k d w m = skip_words us js ks one two k d w m

skip_at : (ks : List Ignorable) (k : ℕ) → (get_or (map skip_part ks) k (skip_part no_ignorable)).regex ≡ (get_or ks k no_ignorable).regex
skip_at [] k = refl
skip_at (x ∷ ks) zero = refl
skip_at (x ∷ ks) (suc k) = skip_at ks k

-- the rules are the same, and each word of a terminal or an ignorable of the first is one in the second
record KeepsWords (g h : Grammar) : Type 0 where
  rules : g.rules ≡ h.rules
  terms : (t : ℕ) (w : List ℕ) → IsTermWord g t w → IsTermWord h t w
  skips : (k : ℕ) (w : List ℕ) → IsSkipWord g k w → IsSkipWord h k w

side_keeps : (s : Sheet) (ms ns : List (List ℕ)) (side : Side) (g h : Grammar) → ms ≡ ns → IsGramOf s ms side g → IsGramOf s ns side h → KeepsWords g h
side_keeps s ms ns side g h same one two = record {
  rules = one.rules ∙ ap (λ names. rule_parts (numbering s.units names) side (rules_of s.units)) same ∙ sym two.rules;
  terms = λ t w m. subst (λ r. Matches r w) (regex_at h.terms t) (term_words s.units (map (λ (x : Terminal). x.regex) g.terms) (map (λ (x : Terminal). x.regex) h.terms) one.terms two.terms t no_terminal.regex w (subst (λ r. Matches r w) (sym (regex_at g.terms t)) m));
  skips = λ k w m. subst (λ r. Matches r w) (skip_at h.skips k) (skip_words s.units (map skip_part g.skips) (map skip_part h.skips) one.skips two.skips k (skip_part no_ignorable) w (subst (λ r. Matches r w) (sym (skip_at g.skips k)) m));
}

text_keeps : (s : Sheet) (p q : Pair) → IsPairOf s p → IsPairOf s q → KeepsWords p.text q.text
text_keeps s p q one two = side_keeps s p.names q.names Text p.text q.text (names_same _ p.names q.names one.names two.names) one.text two.text

xml_keeps : (s : Sheet) (p q : Pair) → IsPairOf s p → IsPairOf s q → KeepsWords p.xml q.xml
xml_keeps s p q one two = side_keeps s p.names q.names Xml p.xml q.xml (names_same _ p.names q.names one.names two.names) one.xml two.xml

-- what is derived in the first is derived in the second
rule_kept : (g h : Grammar) → g.rules ≡ h.rules → (n p : ℕ) → IsRuleOf g n p → IsRuleOf h n p
rule_kept g h same n p of = (subst (λ (rs : List RulePart). p < length rs) same of.0, ap (λ (rs : List RulePart). (get_or rs p no_rule).non) (sym same) ∙ of.1)

items_same : (g h : Grammar) → g.rules ≡ h.rules → (p : ℕ) → items g p ≡ items h p
items_same g h same p = ap (λ (rs : List RulePart). (get_or rs p no_rule).items) same

fits_kept : (g h : Grammar) → KeepsWords g h → (is : List GItem) (ps : Parts) → FitsItems g is ps → FitsItems h is ps
fits_kept g h keeps [] done fit = tt
fits_kept g h keeps (Fixed f ∷ is) (fixed u ps) fit = (fit.0, fits_kept g h keeps is ps fit.1)
fits_kept g h keeps (Term t s ∷ is) (leaf u ps) fit = (keeps.terms t u fit.0, fits_kept g h keeps is ps fit.1)
fits_kept g h keeps (Skip k ∷ is) (skip u ps) fit = (keeps.skips k u fit.0, fits_kept g h keeps is ps fit.1)
fits_kept g h keeps (Non n s ∷ is) (sub q qs ps) fit =
    (rule_kept g h keeps.rules n q fit.0, subst (λ js. FitsItems h js qs) (items_same g h keeps.rules q) (fits_kept g h keeps (items g q) qs fit.1), fits_kept g h keeps is ps fit.2)
fits_kept g h keeps is ps fit = absurd fit

productive_kept : (g h : Grammar) → KeepsWords g h → (n : ℕ) → IsProductive g n → IsProductive h n
productive_kept g h keeps n (d, fits) =
    (d, (rule_kept g h keeps.rules n d.rule fits.0, subst (λ js. FitsItems h js d.parts) (items_same g h keeps.rules d.rule) (fits_kept g h keeps (items g d.rule) d.parts fits.1)))

nullable_kept : (g h : Grammar) → KeepsWords g h → (n : ℕ) → IsNullable g n → IsNullable h n
nullable_kept g h keeps n (d, fits, none) =
    (d, (rule_kept g h keeps.rules n d.rule fits.0, subst (λ js. FitsItems h js d.parts) (items_same g h keeps.rules d.rule) (fits_kept g h keeps (items g d.rule) d.parts fits.1)), none)

item_kept : (g h : Grammar) → KeepsWords g h → (item : GItem) → IsNullableItem g item → IsNullableItem h item
item_kept g h keeps (Fixed f) null = null
item_kept g h keeps (Term t s) null = keeps.terms t [] null
item_kept g h keeps (Non n s) null = nullable_kept g h keeps n null
item_kept g h keeps (Skip k) null = keeps.skips k [] null

leads_kept : (g h : Grammar) → KeepsWords g h → (n m : ℕ) → LeadsTo g n m → LeadsTo h n m
leads_kept g h keeps n m leads = record {
  rule = leads.rule;
  dot = leads.dot;
  slot = leads.slot;
  of = rule_kept g h keeps.rules n leads.rule leads.of;
  item = ap (λ (is : List GItem). slice_get is leads.dot) (sym (items_same g h keeps.rules leads.rule)) ∙ leads.item;
  others = λ k other apart at. item_kept g h keeps other (leads.others k other apart (ap (λ (is : List GItem). slice_get is k) (items_same g h keeps.rules leads.rule) ∙ at));
}

leads_on_kept : (g h : Grammar) → KeepsWords g h → (n m : ℕ) → LeadsOn g n m → LeadsOn h n m
leads_on_kept g h keeps n m (once leads) = once (leads_kept g h keeps n m leads)
leads_on_kept g h keeps n m (onward {m = l} leads rest) = onward (leads_kept g h keeps n l leads) (leads_on_kept g h keeps l m rest)

-- two pairs of one sheet
pub unproductive_agrees : (s : Sheet) (p q : Pair) → IsPairOf s p → IsPairOf s q → (n : ℕ) → IsUnproductive p n → IsUnproductive q n
unproductive_agrees s p q one two n (inl none) = inl (λ h. none (productive_kept q.text p.text (text_keeps s q p two one) n h))
unproductive_agrees s p q one two n (inr none) = inr (λ h. none (productive_kept q.xml p.xml (xml_keeps s q p two one) n h))

pub looping_agrees : (s : Sheet) (p q : Pair) → IsPairOf s p → IsPairOf s q → (n : ℕ) → IsLooping p n → IsLooping q n
looping_agrees s p q one two n (inl loops) = inl (leads_on_kept p.text q.text (text_keeps s p q one two) n n loops)
looping_agrees s p q one two n (inr loops) = inr (leads_on_kept p.xml q.xml (xml_keeps s p q one two) n n loops)

first_rule_kept : (g h : Grammar) → g.rules ≡ h.rules → (n rule : ℕ) → IsFirstRule g n rule → IsFirstRule h n rule
first_rule_kept g h same n rule first = record { of = rule_kept g h same n rule first.of; first = λ k lt of. first.first k lt (rule_kept h g (sym same) n k of) }

pub first_line_agrees : (s : Sheet) (p q : Pair) (P Q : ℕ → Type 0) → IsPairOf s p → IsPairOf s q → ((n : ℕ) → P n → Q n) → (line : ℕ) → IsFirstLineOf p P line → IsFirstLineOf q Q line
first_line_agrees s p q P Q one two over line first =
    let lines : p.lines ≡ q.lines = one.lines ∙ sym two.lines in record {
      non = first.non;
      rule = first.rule;
      holds = over first.non first.holds;
      first = first_rule_kept p.text q.text (text_keeps s p q one two).rules first.non first.rule first.first;
      there = ap (λ (ls : List ℕ). slice_get ls first.rule) (sym lines) ∙ first.there;
    }

-- what is known of one pair of the sheet is known of the sheet
fails_first : (P : Pair → ℕ → Type 0) → ((s : Sheet) (p q : Pair) → IsPairOf s p → IsPairOf s q → (n : ℕ) → P p n → P q n) → (s : Sheet) (p : Pair) → IsPairOf s p → (least : Option ℕ) → IsFirstLine (IsFirstLineOf p (P p)) least → IsFirstLine (FailsAmongNons P s) least
fails_first P agrees s p is None none = λ line fails. none line (first_line_agrees s fails.0 p (P fails.0) (P p) fails.1 is (agrees s fails.0 p fails.1 is) line fails.2)
fails_first P agrees s p is (Some least) first = record {
  fails = (p, is, first.fails);
  least = λ line fails. first.least line (first_line_agrees s fails.0 p (P fails.0) (P p) fails.1 is (agrees s fails.0 p fails.1 is) line fails.2);
}

pub unproductive_fails : (s : Sheet) (p : Pair) → IsPairOf s p → (least : Option ℕ) → IsFirstLine (IsFirstLineOf p (IsUnproductive p)) least → IsFirstLine (FailsAmongNons IsUnproductive s) least
unproductive_fails s p is least first = fails_first IsUnproductive unproductive_agrees s p is least first

pub looping_fails : (s : Sheet) (p : Pair) → IsPairOf s p → (least : Option ℕ) → IsFirstLine (IsFirstLineOf p (IsLooping p)) least → IsFirstLine (FailsAmongNons IsLooping s) least
looping_fails s p is least first = fails_first IsLooping looping_agrees s p is least first
