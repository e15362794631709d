-- The two grammars of a sheet are alike: the same rules, kinds of slots and words of terminals.
use Rattle.std.proofs.Common.{◌≡◌, ◌⊎◌, ◌∙◌, ◌<◌, ◌≤◌, inl, inr, ap, sym, refl, subst, ℕ, suc, zero, List, [], ◌∷◌, length, map, get_or, Some, arith, slice_get}
use Rattle.std.proofs.lemmas.Bool.{cases_lt}
use Rattle.std.proofs.lemmas.List.{length-map}
use Rattle.std.proofs.lemmas.Option.{same_Some}
use Rattle.xs_class.specs.declared.side.Side.{Side}
use Rattle.xs_class.specs.declared.side.Side.TheVariants.{Text, Xml}
use Rattle.xs_regex.specs.declared.regex.Regex.{Regex}
use Rattle.xs_regex.specs.Matches.{Matches}
use Rattle.xs_regex.proofs.Meanings.{same_words}
use Rattle.xs_sheet.specs.declared.sheet.Sheet.{Sheet}
use Rattle.xs_sheet.specs.declared.unit.Unit.{Unit}
use Rattle.xs_sheet.specs.declared.unit.Unit.TheVariants as V
use Rattle.xs_gram.specs.declared.parts.GItem.{GItem}
use Rattle.xs_gram.specs.declared.parts.RulePart.{RulePart}
use Rattle.xs_gram.specs.declared.parts.Terminal.{Terminal}
use Rattle.xs_gram.specs.Grammar.{Grammar, no_rule, no_terminal}
use Rattle.xs_gram.specs.Sound.{IsBuilt}
use Rattle.xs_pair.specs.declared.production.Rule.{Rule}
use Rattle.xs_pair.specs.Grammars.{Numbering, numbering, rule_part, rule_parts, side_of, flat_marks, AreTermsOf, IsGramOf, HaveSameTrees, Pair, IsPairOf}
use Rattle.xs_pair.specs.Listing.{rules_of}
use Rattle.xs_pair.specs.Marks.{slot_names}
use Rattle.xs_pair.specs.Sound.{IsMade}
use Rattle.xs_pair.specs.Verdict.{FailsAt, NoneFails}
use Rattle.xs_pair.proofs.Once.{once_left, once_right, once_back, once_forth}
use Rattle.xs_pair.proofs.Ready.{passes}
use Rattle.xs_pair.proofs.SlotKinds.{SameKinds, same_kinds}
use Rattle.xs_pair.proofs.Trees.{AreAlike, tree_fits}

past_end : {A : Type 0} (xs : List A) (i : ℕ) (d : A) → length xs ≤ i → get_or xs i d ≡ d
past_end [] i d le = refl
past_end (x ∷ xs) zero d le = absurd (omega arith)
past_end (x ∷ xs) (suc i) d le = past_end xs i d (omega arith)

pub at_map : {A B : Type 0} (f : A → B) (xs : List A) (p : ℕ) (d : B) → p < length xs → (x : A) × (slice_get xs p ≡ Some x) × (get_or (map f xs) p d ≡ f x)
at_map f [] p d lt = absurd (omega arith)
at_map f (x ∷ xs) zero d lt = (x, refl, refl)
at_map f (x ∷ xs) (suc p) d lt = at_map f xs p d (omega arith)

same_itself : (is : List GItem) → SameKinds is is
same_itself is = record { long = refl; same = λ slot. refl }

same_back : (is js : List GItem) → SameKinds is js → SameKinds js is
same_back is js same = record { long = sym same.long; same = λ slot. sym (same.same slot) }

-- a production's two sides have the same kinds
sides_same : (s : Sheet) (n : Numbering) (p : ℕ) (r : Rule) → NoneFails (FailsAt s) → slice_get (rules_of s.units) p ≡ Some r → SameKinds (flat_marks n (slot_names r.left) r.left) (flat_marks n (slot_names r.left) r.right)
sides_same s n p r none at =
    let (named, once, kind) = passes s p r none at in
    let left = slot_names r.left in
    let right = slot_names r.right in
    same_kinds n r.left r.right (once_left left right once) (once_right left right once) (once_back left right once) (once_forth left right once) (λ two. kind (inr two))

side_kinds : (s : Sheet) (n : Numbering) (a b : Side) (p : ℕ) (r : Rule) → NoneFails (FailsAt s) → slice_get (rules_of s.units) p ≡ Some r → SameKinds (flat_marks n (slot_names r.left) (side_of a r)) (flat_marks n (slot_names r.left) (side_of b r))
side_kinds s n Text Text p r none at = same_itself (flat_marks n (slot_names r.left) r.left)
side_kinds s n Text Xml p r none at = sides_same s n p r none at
side_kinds s n Xml Text p r none at = same_back (flat_marks n (slot_names r.left) r.left) (flat_marks n (slot_names r.left) r.right) (sides_same s n p r none at)
side_kinds s n Xml Xml p r none at = same_itself (flat_marks n (slot_names r.left) r.right)

parts_kinds : (s : Sheet) (n : Numbering) (a b : Side) (p : ℕ) → NoneFails (FailsAt s) → SameKinds (get_or (rule_parts n a (rules_of s.units)) p no_rule).items (get_or (rule_parts n b (rules_of s.units)) p no_rule).items
parts_kinds s n a b p none = by_case (cases_lt p (length (rules_of s.units)))
  where
    by_case : (p < length (rules_of s.units)) ⊎ (length (rules_of s.units) ≤ p) → SameKinds (get_or (rule_parts n a (rules_of s.units)) p no_rule).items (get_or (rule_parts n b (rules_of s.units)) p no_rule).items
    by_case (inl low) =
        let one = at_map (rule_part n a) (rules_of s.units) p no_rule low in
        let two = at_map (rule_part n b) (rules_of s.units) p no_rule low in
        let same : two.0 ≡ one.0 = same_Some two.0 one.0 (sym two.1 ∙ one.1) in
        rw (one.2, two.2, same) (side_kinds s n a b p one.0 none one.1)
    by_case (inr high) =
        rw (past_end (rule_parts n a (rules_of s.units)) p no_rule (omega (arith, length-map (rules_of s.units) (rule_part n a))), past_end (rule_parts n b (rules_of s.units)) p no_rule (omega (arith, length-map (rules_of s.units) (rule_part n b)))) (same_itself [])

-- rule p of either side is of the same nonterminal
parts_non : (n : Numbering) (a b : Side) (rs : List Rule) (p : ℕ) → (get_or (rule_parts n a rs) p no_rule).non ≡ (get_or (rule_parts n b rs) p no_rule).non
parts_non n a b [] p = refl
parts_non n a b (r ∷ rs) zero = refl
parts_non n a b (r ∷ rs) (suc p) = parts_non n a b rs p

-- terminals have the same words
pub term_words : (us : List Unit) (rs qs : List Regex) → AreTermsOf us rs → AreTermsOf us qs → (t : ℕ) (d : Regex) (w : List ℕ) → Matches (get_or rs t d) w → Matches (get_or qs t d) w
term_words [] [] [] one two t d w m = m
term_words [] (r ∷ rs) qs one two t d w m = absurd one
term_words [] [] (q ∷ qs) one two t d w m = absurd two
term_words (V.Terminal name pattern regex line ∷ us) [] qs one two t d w m = absurd one
term_words (V.Terminal name pattern regex line ∷ us) (r ∷ rs) [] one two t d w m = absurd two
term_words (V.Terminal name pattern regex line ∷ us) (r ∷ rs) (q ∷ qs) one two zero d w m = same_words pattern r q one.0 two.0 w m
term_words (V.Terminal name pattern regex line ∷ us) (r ∷ rs) (q ∷ qs) one two (suc t) d w m = term_words us rs qs one.1 two.1 t d w m
term_words (V.Ignorable name pattern regex normal line ∷ us) rs qs one two t d w m = term_words us rs qs one two t d w m
term_words (V.Fence left right line ∷ us) rs qs one two t d w m = term_words us rs qs one two t d w m
term_words (V.Production name left right line ∷ us) rs qs one two t d w m = term_words us rs qs one two t d w m

pub regex_at : (ts : List Terminal) (t : ℕ) → get_or (map (λ (x : Terminal). x.regex) ts) t no_terminal.regex ≡ (get_or ts t no_terminal).regex
regex_at [] t = refl
regex_at (x ∷ ts) zero = refl
regex_at (x ∷ ts) (suc t) = regex_at ts t

alike : (s : Sheet) (names : List (List ℕ)) (a b : Side) (g h : Grammar) → IsGramOf s names a g → IsGramOf s names b h → NoneFails (FailsAt s) → AreAlike g h
alike s names a b g h one two none =
    let n = numbering s.units names in
    let rs = rules_of s.units in record {
      rules = λ non p of. (
        (let lt = of.0 in omega (arith, ap length one.rules, ap length two.rules, length-map rs (rule_part n a), length-map rs (rule_part n b))),
        ap (λ (l : List RulePart). (get_or l p no_rule).non) two.rules ∙ sym (parts_non n a b rs p) ∙ sym (ap (λ (l : List RulePart). (get_or l p no_rule).non) one.rules) ∙ of.1,
      );
      kinds = λ p. subst (λ (l : List RulePart). SameKinds (get_or l p no_rule).items (get_or h.rules p no_rule).items) (sym one.rules) (subst (λ (l : List RulePart). SameKinds (get_or (rule_parts n a rs) p no_rule).items (get_or l p no_rule).items) (sym two.rules) (parts_kinds s n a b p none));
      words = λ t w m. subst (λ r. Matches r w) (regex_at h.terms t) (term_words s.units (map (λ (x : Terminal). x.regex) g.terms) (map (λ (x : Terminal). x.regex) h.terms) one.terms two.terms t no_terminal.regex w (subst (λ r. Matches r w) (sym (regex_at g.terms t)) m));
    }

-- a common tree fits on one side exactly where it fits on the other
pub same_trees : (s : Sheet) (names : List (List ℕ)) (g h : Grammar) → IsGramOf s names Text g → IsGramOf s names Xml h → NoneFails (FailsAt s) → HaveSameTrees g h
same_trees s names g h one two none non t = (tree_fits g h (alike s names Text Xml g h one two none) non t, tree_fits h g (alike s names Xml Text h g two one none) non t)

-- the pair of a sheet in which none of the first seven rules fails
pub made : (s : Sheet) (p : Pair) → IsPairOf s p → IsBuilt p.text → IsBuilt p.xml → NoneFails (FailsAt s) → IsMade p
made s p of text xml none = record {
  pair = (s, of);
  text = text;
  xml = xml;
  same = same_trees s p.names p.text p.xml of.text of.xml none;
  starts = of.text.start ∙ sym of.xml.start;
}
