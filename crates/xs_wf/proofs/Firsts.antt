-- Nonterminals are numbered in the order of their first productions, so the first at which a rule fails
-- gives the least line.
use Rattle.std.proofs.Common.{◌≡◌, ◌⊎◌, ◌∙◌, ◌<◌, ◌≤◌, inl, inr, ap, sym, refl, subst, ℕ, suc, zero, List, [], ◌∷◌, ◌++◌, length, take, drop, get_or, Some, None, arith, slice_get}
use Rattle.std.specs.Option.{option_map}
use Rattle.std.specs.declared.option.Option.{Option}
use Rattle.std.proofs.lemmas.Bool.{cases_lt}
use Rattle.std.proofs.lemmas.List.{length-map, take-append-drop, append_assoc, append-nil}
use Rattle.std.proofs.lemmas.Option.{none-some, same_Some, slice_get_within, slice_get-get_or, slice_get-map}
use Rattle.xs_class.specs.Ordered.{place_of}
use Rattle.xs_class.specs.declared.side.Side.{Side}
use Rattle.xs_class.specs.declared.side.Side.TheVariants.{Text}
use Rattle.xs_class.proofs.Places.{first_is_found, nowhere_is_none}
use Rattle.xs_class.proofs.Lists.{get_left, get_taken}
use Rattle.xs_sheet.specs.declared.sheet.Sheet.{Sheet}
use Rattle.xs_gram.specs.declared.parts.RulePart.{RulePart}
use Rattle.xs_gram.specs.Grammar.{Grammar, no_rule, rule_of, IsRuleOf}
use Rattle.xs_gram.specs.Sound.{IsInRange}
use Rattle.xs_pair.specs.declared.names.Sort.TheVariants as S
use Rattle.xs_pair.specs.declared.production.Rule.{Rule}
use Rattle.xs_pair.specs.Directories.{IsDistinct}
use Rattle.xs_pair.specs.Grammars.{Pair, IsPair, IsGramOf, Numbering, numbering, rule_part}
use Rattle.xs_pair.specs.Listing.{rules_of}
use Rattle.xs_pair.specs.Rules.{IsAmong, IsAbsent}
use Rattle.xs_pair.specs.Units.{names_of, nons_of, with_name, with_names, firsts, number_of}
use Rattle.xs_pair.specs.Verdict.{IsFirstLine}
use Rattle.xs_pair.proofs.Numbering.{number_is, among_at, firsts_have, rule_names, rule_is_named}
use Rattle.xs_pair.proofs.Places.{found_there, first_before, stands_nowhere, among_or_absent, get_snoc, get_take, absent_snoc}
use Rattle.xs_wf.specs.Nonterminals.{IsFirstRule, IsFirstLineOf, IsLineOfSome, IsFirstNon, HaveOrderedLines}
use Rattle.xs_pair.proofs.Alike.{at_map}

-- an element among the first of two joined lists
front_get : {A : Type 0} (xs ys : List A) (j : ℕ) (x : A) → j < length xs → slice_get (xs ++ ys) j ≡ Some x → slice_get xs j ≡ Some x
front_get [] ys j x lt at = absurd (omega arith)
front_get (z ∷ xs) ys zero x lt at = at
front_get (z ∷ xs) ys (suc j) x lt at = front_get xs ys j x (omega arith) at

-- a name's first place, with more names after
place_front : (xs ys : List (List ℕ)) (x : List ℕ) (k : ℕ) → place_of xs x ≡ Some k → place_of (xs ++ ys) x ≡ Some k
place_front xs ys x k is = first_is_found (xs ++ ys) x k (get_left xs ys k x (found_there xs x k is)) (λ j lt at. earlier j lt at)
  where
    earlier : (j : ℕ) → j < k → slice_get (xs ++ ys) j ≡ Some x → ⊥
    earlier j lt at =
        let within : k < length xs = slice_get_within xs k x (found_there xs x k is) in
        let (i, le, found) = first_before xs x j (front_get xs ys j x (omega arith) at) in
        let same : i ≡ k = same_Some i k (sym found ∙ is) in omega arith

place_after : (xs ys : List (List ℕ)) (x : List ℕ) (k : ℕ) → IsAbsent xs x → place_of (xs ++ ys) x ≡ Some k → length xs ≤ k
place_after xs ys x k none is = by_case (cases_lt k (length xs))
  where
    by_case : (k < length xs) ⊎ (length xs ≤ k) → length xs ≤ k
    by_case (inl low) = absurd (stands_nowhere xs x k none (front_get xs ys k x low (found_there (xs ++ ys) x k is)))
    by_case (inr high) = high

-- names with one more, unless it is among them
with_cases : (ns : List (List ℕ)) (n : List ℕ) → (with_name ns n ≡ ns) ⊎ (IsAbsent ns n × (with_name ns n ≡ ns ++ n ∷ []))
with_cases ns n = by_case (place_of ns n) refl
  where
    by_case : (o : Option ℕ) → place_of ns n ≡ o → (with_name ns n ≡ ns) ⊎ (IsAbsent ns n × (with_name ns n ≡ ns ++ n ∷ []))
    by_case None is = inr (is, ap (λ (p : Option ℕ). elim p [ None ↦ ns ++ n ∷ [] | Some k ↦ ns ]) is)
    by_case (Some k) is = inl (ap (λ (p : Option ℕ). elim p [ None ↦ ns ++ n ∷ [] | Some k ↦ ns ]) is)

grown : (ns list : List (List ℕ)) → (more : List (List ℕ)) × (with_names ns list ≡ ns ++ more)
grown ns [] = ([], sym (append-nil ns))
grown ns (n ∷ list) = by_case (with_cases ns n) (grown (with_name ns n) list)
  where
    by_case : (with_name ns n ≡ ns) ⊎ (IsAbsent ns n × (with_name ns n ≡ ns ++ n ∷ [])) → (more : List (List ℕ)) × (with_names (with_name ns n) list ≡ with_name ns n ++ more) → (more : List (List ℕ)) × (with_names (with_name ns n) list ≡ ns ++ more)
    by_case (inl same) (more, is) = (more, is ∙ ap (λ (l : List (List ℕ)). l ++ more) same)
    by_case (inr (none, longer)) (more, is) = (n ∷ more, is ∙ ap (λ (l : List (List ℕ)). l ++ more) longer ∙ append_assoc ns (n ∷ []) more)

with_cut : (ns front rest : List (List ℕ)) → with_names ns (front ++ rest) ≡ with_names (with_names ns front) rest
with_cut ns [] rest = refl
with_cut ns (n ∷ front) rest = with_cut (with_name ns n) front rest

absent_with : (ns : List (List ℕ)) (n x : List ℕ) → IsAbsent ns x → (n ≡ x → ⊥) → IsAbsent (with_name ns n) x
absent_with ns n x none other = by_case (with_cases ns n)
  where
    by_case : (with_name ns n ≡ ns) ⊎ (IsAbsent ns n × (with_name ns n ≡ ns ++ n ∷ [])) → IsAbsent (with_name ns n) x
    by_case (inl same) = subst (λ (l : List (List ℕ)). IsAbsent l x) (sym same) none
    by_case (inr (new, longer)) = subst (λ (l : List (List ℕ)). IsAbsent l x) (sym longer) (absent_snoc ns n x none other)

absent_names : (ns list : List (List ℕ)) (x : List ℕ) → IsAbsent ns x → IsAbsent list x → IsAbsent (with_names ns list) x
absent_names ns [] x none out = none
absent_names ns (n ∷ list) x none out =
    absent_names (with_name ns n) list x (absent_with ns n x none (λ same. stands_nowhere (n ∷ list) x 0 out (ap Some same))) (nowhere_is_none list x (λ j at. stands_nowhere (n ∷ list) x (suc j) out at))

-- no name stands twice
distinct_snoc : (ns : List (List ℕ)) (n : List ℕ) → IsDistinct ns → IsAbsent ns n → IsDistinct (ns ++ n ∷ [])
distinct_snoc ns n distinct none k x at = by_case (get_snoc ns n k x at)
  where
    earlier : (j : ℕ) → k ≡ length ns → n ≡ x → j < k → (slice_get ns j ≡ Some x) ⊎ ((j ≡ length ns) × (n ≡ x)) → ⊥
    earlier j last same lt (inl here) = stands_nowhere ns x j (subst (λ m. IsAbsent ns m) same none) here
    earlier j last same lt (inr (end, again)) = omega arith

    by_case : (slice_get ns k ≡ Some x) ⊎ ((k ≡ length ns) × (n ≡ x)) → place_of (ns ++ n ∷ []) x ≡ Some k
    by_case (inl here) = place_front ns (n ∷ []) x k (distinct k x here)
    by_case (inr (last, same)) = first_is_found (ns ++ n ∷ []) x k at (λ j lt before. earlier j last same lt (get_snoc ns n j x before))

distinct_names : (ns list : List (List ℕ)) → IsDistinct ns → IsDistinct (with_names ns list)
distinct_names ns [] distinct = distinct
distinct_names ns (n ∷ list) distinct = distinct_names (with_name ns n) list (by_case (with_cases ns n))
  where
    by_case : (with_name ns n ≡ ns) ⊎ (IsAbsent ns n × (with_name ns n ≡ ns ++ n ∷ [])) → IsDistinct (with_name ns n)
    by_case (inl same) = subst IsDistinct (sym same) distinct
    by_case (inr (none, longer)) = subst IsDistinct (sym longer) (distinct_snoc ns n distinct none)

firsts_distinct : (list : List (List ℕ)) → IsDistinct (firsts list)
firsts_distinct list = distinct_names [] list (λ k x at. absurd (none-some x at))

-- a name that stands among the first that many is numbered before one that does not
earlier_number : (list : List (List ℕ)) (j : ℕ) (x y : List ℕ) (a b : ℕ) → IsAbsent (take j list) x → IsAmong (take j list) y → place_of (firsts list) x ≡ Some a → place_of (firsts list) y ≡ Some b → b < a
earlier_number list j x y a b none among at_x at_y =
    let front : List (List ℕ) = firsts (take j list) in
    let (more, longer) = grown front (drop j list) in
    let whole : firsts list ≡ front ++ more = ap (λ (l : List (List ℕ)). firsts l) (sym (take-append-drop j list)) ∙ with_cut [] (take j list) (drop j list) ∙ longer in
    let (c, found) = firsts_have (take j list) y among in
    let low : c < length front = slice_get_within front c y (found_there front y c found) in
    let same : c ≡ b = same_Some c b (sym (place_front front more y c found) ∙ ap (λ (l : List (List ℕ)). place_of l y) (sym whole) ∙ at_y) in
    let high : length front ≤ a = place_after front more x a (absent_names [] (take j list) x refl none) (ap (λ (l : List (List ℕ)). place_of l x) (sym whole) ∙ at_x) in
    omega arith

head_at : (s : Sheet) (k : ℕ) (r : Rule) → slice_get (rules_of s.units) k ≡ Some r → slice_get (names_of S.Production s.units) k ≡ Some r.name
head_at s k r at = ap (λ (l : List (List ℕ)). slice_get l k) (sym (rule_names s.units)) ∙ slice_get-map (λ (q : Rule). q.name) (rules_of s.units) k ∙ ap (option_map (λ (q : Rule). q.name)) at

rule_name : (s : Sheet) (names : List (List ℕ)) (side : Side) (g : Grammar) → IsGramOf s names side g → (n k : ℕ) → IsRuleOf g n k → (x : List ℕ) × (slice_get (names_of S.Production s.units) k ≡ Some x) × (place_of (nons_of s.units) x ≡ Some n)
rule_name s names side g is n k of =
    let rs : List Rule = rules_of s.units in
    let num : Numbering = numbering s.units names in
    let lt : k < length g.rules = of.0 in
    let long : length g.rules ≡ length rs = ap length is.rules ∙ length-map rs (rule_part num side) in
    let (r, at, whole) = at_map (rule_part num side) rs k no_rule (omega arith) in
    let non : number_of (nons_of s.units) r.name ≡ n = ap (λ (q : RulePart). q.non) (sym whole) ∙ ap (λ (l : List RulePart). (get_or l k no_rule).non) (sym is.rules) ∙ of.1 in
    let (m, place) = rule_is_named s.units k r at in
    (r.name, head_at s k r at, place ∙ ap Some (sym (number_is (nons_of s.units) r.name m place) ∙ non))

name_rule : (s : Sheet) (names : List (List ℕ)) (side : Side) (g : Grammar) → IsGramOf s names side g → (n k : ℕ) (x : List ℕ) → slice_get (names_of S.Production s.units) k ≡ Some x → place_of (nons_of s.units) x ≡ Some n → IsRuleOf g n k
name_rule s names side g is n k x here place =
    let rs : List Rule = rules_of s.units in
    let num : Numbering = numbering s.units names in
    let within : k < length (names_of S.Production s.units) = slice_get_within (names_of S.Production s.units) k x here in
    let heads : length rs ≡ length (names_of S.Production s.units) = sym (length-map rs (λ (q : Rule). q.name)) ∙ ap length (rule_names s.units) in
    let long : length g.rules ≡ length rs = ap length is.rules ∙ length-map rs (rule_part num side) in
    let (r, at, whole) = at_map (rule_part num side) rs k no_rule (omega arith) in
    let same : r.name ≡ x = same_Some r.name x (sym (head_at s k r at) ∙ here) in
    let lt : k < length g.rules = omega arith in
    (lt, ap (λ (l : List RulePart). (get_or l k no_rule).non) is.rules ∙ ap (λ (q : RulePart). q.non) whole ∙ ap (λ (y : List ℕ). number_of (nons_of s.units) y) same ∙ number_is (nons_of s.units) x n place)

-- first rules come in the order of their nonterminals
pub rules_in_order : (s : Sheet) (names : List (List ℕ)) (side : Side) (g : Grammar) → IsGramOf s names side g → (n m j k : ℕ) → IsFirstRule g n j → IsFirstRule g m k → n < m → j < k
rules_in_order s names side g is n m j k one two less = by_case (cases_lt j k)
  where
    before : (x y : List ℕ) → slice_get (names_of S.Production s.units) k ≡ Some y → place_of (nons_of s.units) x ≡ Some n → place_of (nons_of s.units) y ≡ Some m → k < j → m < n
    before x y at_y place_x place_y lt =
        let heads : List (List ℕ) = names_of S.Production s.units in
        let none : IsAbsent (take j heads) x = nowhere_is_none (take j heads) x (λ i at. let h = get_take heads j i x at in one.first i h.0 (name_rule s names side g is n i x h.1 place_x)) in
        earlier_number heads j x y n m none (among_at (take j heads) k y (get_taken heads j k y lt at_y)) place_x place_y

    not_before : k ≤ j → (k < j) ⊎ (j ≤ k) → j < k
    not_before le (inl lt) =
        let (x, at_x, place_x) = rule_name s names side g is n j one.of in
        let (y, at_y, place_y) = rule_name s names side g is m k two.of in
        let wrong : m < n = before x y at_y place_x place_y lt in absurd (omega arith)
    not_before le (inr ge) =
        let same : j ≡ k = omega arith in
        let equal : n ≡ m = sym one.of.1 ∙ ap (λ (i : ℕ). (rule_of g i).non) same ∙ two.of.1 in absurd (omega arith)

    by_case : (j < k) ⊎ (k ≤ j) → j < k
    by_case (inl lt) = lt
    by_case (inr le) = not_before le (cases_lt k j)

-- each nonterminal has a first rule
named_has_rule : (s : Sheet) (names : List (List ℕ)) (side : Side) (g : Grammar) → IsGramOf s names side g → (n : ℕ) (x : List ℕ) → slice_get (nons_of s.units) n ≡ Some x → IsAmong (names_of S.Production s.units) x ⊎ IsAbsent (names_of S.Production s.units) x → (k : ℕ) × IsFirstRule g n k
named_has_rule s names side g is n x at (inl (k, found)) =
    let heads : List (List ℕ) = names_of S.Production s.units in
    (k, record { of = name_rule s names side g is n k x (found_there heads x k found) (firsts_distinct heads n x at); first = λ i low of. earlier i low of })
  where
    earlier : (i : ℕ) → i < k → IsRuleOf g n i → ⊥
    earlier i low of =
        let (y, at_y, place_y) = rule_name s names side g is n i of in
        let same : y ≡ x = same_Some y x (sym (found_there (nons_of s.units) y n place_y) ∙ at) in
        let (h, le, first) = first_before (names_of S.Production s.units) x i (at_y ∙ ap Some same) in
        let one : h ≡ k = same_Some h k (sym first ∙ found) in omega arith
named_has_rule s names side g is n x at (inr none) = absurd (stands_nowhere (nons_of s.units) x n (absent_names [] (names_of S.Production s.units) x refl none) at)

side_has_rule : (s : Sheet) (names : List (List ℕ)) (side : Side) (g : Grammar) → IsGramOf s names side g → (n : ℕ) → n < g.nons → (k : ℕ) × IsFirstRule g n k
side_has_rule s names side g is n lt =
    let x : List ℕ = get_or (nons_of s.units) n [] in
    let long : g.nons ≡ length (nons_of s.units) = is.nons in
    let at : slice_get (nons_of s.units) n ≡ Some x = slice_get-get_or (nons_of s.units) n [] (omega arith) in
    named_has_rule s names side g is n x at (among_or_absent (names_of S.Production s.units) x)

pub has_first_rule : (p : Pair) → IsPair p → (n : ℕ) → n < p.text.nons → (k : ℕ) × IsFirstRule p.text n k
has_first_rule p (s, is) n lt = side_has_rule s p.names Text p.text is.text n lt

-- a nonterminal that has a rule is there
pub rule_bound : (g : Grammar) → IsInRange g → (n rule : ℕ) → IsRuleOf g n rule → n < g.nons
rule_bound g range n rule of = subst (λ (m : ℕ). m < g.nons) of.1 (range.rules rule of.0)

-- the line of the first nonterminal is the least one
pub first_line_is : (p : Pair) (P Q : ℕ → Type 0) (non least : Option ℕ) → IsPair p → HaveOrderedLines p.lines → ((n : ℕ) → P n → Q n) → ((n rule : ℕ) → IsRuleOf p.text n rule → Q n → P n) → IsFirstNon P non → IsLineOfSome p non least → IsFirstLine (IsFirstLineOf p Q) least
first_line_is p P Q None None pair up to from none is = λ line fails. none fails.non (from fails.non fails.rule fails.first.of fails.holds)
first_line_is p P Q None (Some line) pair up to from none is = absurd is
first_line_is p P Q (Some n) None pair up to from first is = absurd is
first_line_is p P Q (Some n) (Some line) (s, pair) up to from first is = record {
  fails = record { non = n; rule = is.rule; holds = to n first.fails; first = is.first; there = is.there };
  least = λ other fails. up is.rule fails.rule line other is.there fails.there (by_case fails.non fails.rule fails.first (cases_lt n fails.non) (first.least fails.non (from fails.non fails.rule fails.first.of fails.holds)));
}
  where
    no_earlier : (rule : ℕ) → IsRuleOf p.text n rule → (rule < is.rule) ⊎ (is.rule ≤ rule) → is.rule ≤ rule
    no_earlier rule of (inl lt) = absurd (is.first.first rule lt of)
    no_earlier rule of (inr le) = le

    by_case : (m rule : ℕ) → IsFirstRule p.text m rule → (n < m) ⊎ (m ≤ n) → n ≤ m → is.rule ≤ rule
    by_case m rule it (inl lt) le = let low : is.rule < rule = rules_in_order s p.names Text p.text pair.text n m is.rule rule is.first it lt in omega arith
    by_case m rule it (inr ge) le = let same : m ≡ n = omega arith in no_earlier rule (subst (λ (k : ℕ). IsRuleOf p.text k rule) same it.of) (cases_lt rule is.rule)

pub none_from : (p : Pair) (non least : Option ℕ) → IsLineOfSome p non least → least ≡ None → non ≡ None
none_from p None least is none = refl
none_from p (Some n) None is none = absurd is
none_from p (Some n) (Some line) is none = cc
