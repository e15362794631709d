-- What is built of parts that a grammar can be built of is in range, small, with automata, and has few places.
use Rattle.std.proofs.Common.{◌≡◌, ℕ, suc, zero, ◌+◌, ◌*◌, ◌<◌, ◌≤◌, List, [], ◌∷◌, length, map, refl, sym, ◌∙◌, ap, subst, arith, slice_index_or, length-append}
use Rattle.xs_gram.proofs.Each.{each_within, each_get, each_map, each_both, each_or, each_weaker}
use Rattle.xs_gram.specs.declared.parts.GItem.{GItem}
use Rattle.xs_gram.specs.declared.parts.GItem.TheVariants.{Fixed, Term, Non, Skip}
use Rattle.xs_gram.specs.declared.parts.RulePart.{RulePart}
use Rattle.xs_gram.specs.declared.parts.Terminal.{Terminal}
use Rattle.xs_gram.specs.declared.parts.GramParts.{GramParts}
use Rattle.xs_gram.specs.Grammar.{Grammar, no_rule, no_terminal, no_ignorable, items, slots, term_of, skip_of, fixed_symbols, symbols_count}
use Rattle.xs_gram.specs.Fences.{fence_symbols, spread_items, IsLevel, level_none, AvoidsFences}
use Rattle.xs_gram.specs.Laws.{IsDistinct, IsNumbered, HasNumberedSlots}
use Rattle.xs_gram.specs.Sound.{IsInRange, HasAutomata, IsProper}
use Rattle.xs_gram.specs.Places.{positions_of, insides, rule_places, places_from}
use Rattle.xs_gram.specs.Building.{EachOf, NamesAreThere, items_count, IsRuleAmong, IsFit, CanBuild, HasProperFences, IsOf, skip_part, TermHasAutomaton, SkipHasAutomaton, IsReady}
use Rattle.xs_gram.proofs.Numbers.{length-insides}
use Rattle.xs_gram.proofs.Spreading.{spread_short}

long_map : {A B : Type 0} (f : A → B) (xs : List A) → length (map f xs) ≡ length xs
long_map f [] = refl
long_map f (x ∷ xs) = ap suc (long_map f xs)

among : (a b c a' b' c' : ℕ) (rs rs' : List RulePart) → a ≡ a' → b ≡ b' → c ≡ c' → rs ≡ rs' → EachOf (IsRuleAmong a' b' c') rs' → EachOf (IsRuleAmong a b c) rs
among a b c a' b' c' rs rs' e f g h each = subst (λ l. EachOf (IsRuleAmong a b c) l) (sym h) (subst (λ n. EachOf (IsRuleAmong n b c) rs') (sym e) (subst (λ n. EachOf (IsRuleAmong a' n c) rs') (sym f) (subst (λ n. EachOf (IsRuleAmong a' b' n) rs') (sym g) each)))

-- a count of one rule is at most that of all rules
one_within : (f : RulePart → ℕ) (total : List RulePart → ℕ) → f no_rule ≡ 0 → ((r : RulePart) (rs : List RulePart) → total (r ∷ rs) ≡ f r + total rs) → (rs : List RulePart) (p : ℕ) → f (slice_index_or rs p no_rule) ≤ total rs
one_within f total none more [] zero = omega (arith, none)
one_within f total none more [] (suc p) = omega (arith, none)
one_within f total none more (r ∷ rs) zero = omega (arith, more r rs)
one_within f total none more (r ∷ rs) (suc p) = omega (arith, more r rs, one_within f total none more rs p)

items_within : (rs : List RulePart) (p : ℕ) → length (slice_index_or rs p no_rule).items ≤ items_count rs
items_within rs p = one_within (λ r. length r.items) items_count refl (λ r rs. refl) rs p

symbols_within : (rs : List RulePart) (p : ℕ) → fixed_symbols (slice_index_or rs p no_rule).items ≤ symbols_count rs
symbols_within rs p = one_within (λ r. fixed_symbols r.items) symbols_count refl (λ r rs. refl) rs p

-- at most 513 places for an item, and one for a rule's end
rule_small : (g : Grammar) (p n : ℕ) (is : List GItem) → ((i : GItem) → positions_of g i ≤ 512) → length (rule_places g p n is) ≤ suc (length is * 513)
rule_small g p n [] small = omega arith
rule_small g p n (i ∷ is) small =
    let rest = rule_small g p (n + 1) is small in
    let here = small i in
    omega (arith, length-append (insides p n 0 (positions_of g i)) (rule_places g p (n + 1) is), length-insides p n 0 (positions_of g i))

places_small : (g : Grammar) (p : ℕ) (rs : List RulePart) → ((i : GItem) → positions_of g i ≤ 512) → length (places_from g p rs) ≤ length rs + items_count rs * 513
places_small g p [] small = omega arith
places_small g p (r ∷ rs) small =
    let rest = places_small g (p + 1) rs small in
    let here = rule_small g p 0 r.items small in
    omega (arith, length-append (rule_places g p 0 r.items) (places_from g (p + 1) rs))

positions_small : (g : Grammar) → EachOf (λ t. length t.automaton.classes ≤ 512) g.terms → EachOf (λ k. length k.automaton.classes ≤ 512) g.skips → (i : GItem) → positions_of g i ≤ 512
positions_small g terms skips (Fixed f) = omega arith
positions_small g terms skips (Term t s) = each_or (λ t. length t.automaton.classes ≤ 512) g.terms no_terminal t terms (omega arith)
positions_small g terms skips (Non n s) = omega arith
positions_small g terms skips (Skip k) = each_or (λ k. length k.automaton.classes ≤ 512) g.skips no_ignorable k skips (omega arith)

in_range : (g : Grammar) → g.start < g.nons → EachOf (IsRuleAmong g.nons (length g.terms) (length g.skips)) g.rules → EachOf (λ r. EachOf (NamesAreThere g) r.items) g.rules → IsInRange g
in_range g start rules names = record {
  start = start;
  rules = λ p lt. (each_within (IsRuleAmong g.nons (length g.terms) (length g.skips)) g.rules no_rule p rules lt).non;
  terms = λ p n t s at. each_get (NamesAreThere g) (items g p) n (Term t s) (there p) at;
  nons = λ p n m s at. each_get (NamesAreThere g) (items g p) n (Non m s) (there p) at;
  skips = λ p n k at. each_get (NamesAreThere g) (items g p) n (Skip k) (there p) at;
  words = λ p n f at. each_get (NamesAreThere g) (items g p) n (Fixed f) (there p) at;
}
  where
    there : (p : ℕ) → EachOf (NamesAreThere g) (items g p)
    there p = each_or (λ r. EachOf (NamesAreThere g) r.items) g.rules no_rule p names tt

with_automata : (g : Grammar) → EachOf TermHasAutomaton g.terms → EachOf SkipHasAutomaton g.skips → EachOf (λ t. IsFit t.regex) g.terms → EachOf (λ k. IsFit k.regex) g.skips → HasAutomata g
with_automata g terms skips fit_terms fit_skips = record {
  terms = λ t lt. each_within TermHasAutomaton g.terms no_terminal t terms lt;
  skips = λ k lt. each_within SkipHasAutomaton g.skips no_ignorable k skips lt;
  terms_bounded = λ t lt. ((term_fit t lt).size, (term_fit t lt).bounded);
  skips_bounded = λ k lt. ((skip_fit k lt).size, (skip_fit k lt).bounded);
}
  where
    term_fit : (t : ℕ) → t < length g.terms → IsFit (term_of g t).regex
    term_fit t lt = each_within (λ t. IsFit t.regex) g.terms no_terminal t fit_terms lt

    skip_fit : (k : ℕ) → k < length g.skips → IsFit (skip_of g k).regex
    skip_fit k lt = each_within (λ k. IsFit k.regex) g.skips no_ignorable k fit_skips lt

numbered : (g : Grammar) → EachOf (λ r. IsNumbered (slots r.items)) g.rules → HasNumberedSlots g
numbered g each = λ p. each_or (λ r. IsNumbered (slots r.items)) g.rules no_rule p each (record { below = tt; once = tt })

with_fences : (parts : GramParts) (g : Grammar) → HasProperFences parts → IsOf parts g → IsProper g
with_fences parts g proper of = record {
  once = subst (λ fs. IsDistinct (fence_symbols fs)) (sym of.fences) proper.once;
  terms = λ t lt. each_within (λ t. AvoidsFences g.fences t.regex) g.terms no_terminal t terms lt;
  skips = λ k lt. each_within (λ k. AvoidsFences g.fences k.regex) g.skips no_ignorable k skips lt;
  level = λ p. each_or (λ r. IsLevel g.fences (spread_items g.fences r.items)) g.rules no_rule p rules level_none;
}
  where
    terms : EachOf (λ t. AvoidsFences g.fences t.regex) g.terms
    terms = each_map (λ (t : Terminal). t.regex) (AvoidsFences g.fences) g.terms (subst (λ l. EachOf (AvoidsFences g.fences) l) (sym of.terms) (subst (λ fs. EachOf (AvoidsFences fs) parts.terms) (sym of.fences) proper.each_term))

    skips : EachOf (λ k. AvoidsFences g.fences k.regex) g.skips
    skips = each_map skip_part (λ k. AvoidsFences g.fences k.regex) g.skips (subst (λ l. EachOf (λ k. AvoidsFences g.fences k.regex) l) (sym of.skips) (subst (λ fs. EachOf (λ k. AvoidsFences fs k.regex) parts.skips) (sym of.fences) proper.each_skip))

    rules : EachOf (λ r. IsLevel g.fences (spread_items g.fences r.items)) g.rules
    rules = subst (λ l. EachOf (λ r. IsLevel g.fences (spread_items g.fences r.items)) l) (sym of.rules) (subst (λ fs. EachOf (λ r. IsLevel fs (spread_items fs r.items)) parts.rules) (sym of.fences) proper.each_rule)

pub ready : (parts : GramParts) (g : Grammar) → CanBuild parts → IsOf parts g → EachOf TermHasAutomaton g.terms → EachOf SkipHasAutomaton g.skips → IsReady g
ready parts g can of term_automata skip_automata =
    let many_terms : length g.terms ≡ length parts.terms = sym (long_map (λ (t : Terminal). t.regex) g.terms) ∙ ap length of.terms in
    let many_skips : length g.skips ≡ length parts.skips = sym (long_map skip_part g.skips) ∙ ap length of.skips in
    let many_rules : length g.rules ≡ length parts.rules = ap length of.rules in
    let many_items : items_count g.rules ≡ items_count parts.rules = ap items_count of.rules in
    let rules : EachOf (IsRuleAmong g.nons (length g.terms) (length g.skips)) g.rules = among g.nons (length g.terms) (length g.skips) parts.nons (length parts.terms) (length parts.skips) g.rules parts.rules of.nons many_terms many_skips of.rules can.each_rule in
    let names : EachOf (λ r. EachOf (NamesAreThere g) r.items) g.rules = each_weaker (IsRuleAmong g.nons (length g.terms) (length g.skips)) (λ r. EachOf (NamesAreThere g) r.items) (λ r a. a.items) g.rules rules in
    let fit_terms : EachOf (λ t. IsFit t.regex) g.terms = each_map (λ (t : Terminal). t.regex) IsFit g.terms (subst (λ l. EachOf IsFit l) (sym of.terms) can.each_term) in
    let fit_skips : EachOf (λ k. IsFit k.regex) g.skips = each_map skip_part (λ k. IsFit k.regex) g.skips (subst (λ l. EachOf (λ k. IsFit k.regex) l) (sym of.skips) can.each_skip) in
    let small = positions_small g
    (each_both TermHasAutomaton (λ t. IsFit t.regex) (λ t. length t.automaton.classes ≤ 512) (λ t a f. omega (arith, a.positions, f.size)) g.terms term_automata fit_terms)
    (each_both SkipHasAutomaton (λ k. IsFit k.regex) (λ k. length k.automaton.classes ≤ 512) (λ k a f. omega (arith, a.positions, f.size)) g.skips skip_automata fit_skips) in
    record {
      built = record {
        range = in_range g (omega (arith, of.start, of.nons, can.start)) rules names;
        small = record {
          rules = omega (arith, many_rules, can.rules);
          items = λ p. omega (arith, items_within g.rules p, many_items, can.items);
          terms = omega (arith, many_terms, can.terms);
          skips = omega (arith, many_skips, can.skips);
          symbols = omega (arith, ap symbols_count of.rules, can.symbols);
        };
        slots = numbered g (each_weaker (IsRuleAmong g.nons (length g.terms) (length g.skips)) (λ r. IsNumbered (slots r.items)) (λ r a. a.slots) g.rules rules);
        automata = with_automata g term_automata skip_automata fit_terms fit_skips;
        proper = with_fences parts g can.fences of;
      };
      names = names;
      short = λ p. omega (arith, spread_short g.fences (items g p), items_within g.rules p, symbols_within g.rules p, many_items, ap symbols_count of.rules, can.items, can.symbols);
      few = omega (arith, places_small g 0 g.rules small, many_rules, many_items, can.rules, can.items);
    }
