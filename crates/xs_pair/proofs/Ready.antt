-- The parts of either side are fit to build a grammar of, and what a sheet's weight bounds.
use Rattle.std.proofs.Common.{◌≡◌, ◌⊎◌, ◌∙◌, ◌<◌, ◌≤◌, inl, inr, ap, sym, refl, subst, ℕ, suc, zero, List, [], ◌∷◌, length, map, Some, arith, slice_get, length-append}
use Rattle.std.proofs.lemmas.List.{length-map}
use Rattle.std.proofs.lemmas.Option.{none-some, same_Some}
use Rattle.xs_class.specs.Ordered.{AreNamesOf}
use Rattle.xs_class.specs.declared.side.Side.{Side}
use Rattle.xs_class.specs.declared.side.Side.TheVariants.{Text, Xml}
use Rattle.xs_regex.specs.declared.regex.Regex.{Regex}
use Rattle.xs_sheet.specs.declared.sheet.Sheet.{Sheet}
use Rattle.xs_sheet.specs.declared.unit.Unit.{Unit}
use Rattle.xs_sheet.specs.declared.unit.Unit.TheVariants as V
use Rattle.xs_sheet.specs.Grammar.{IsSheetOf}
use Rattle.xs_gram.specs.declared.parts.SkipPart.{SkipPart}
use Rattle.xs_gram.specs.declared.parts.GramParts.{GramParts}
use Rattle.xs_gram.specs.Grammar.{slots, symbols_count}
use Rattle.xs_gram.specs.Laws.{IsDistinct, IsNumbered}
use Rattle.xs_gram.specs.Fences.{fence_symbols, spread_items, IsLevel, AvoidsFences}
use Rattle.xs_gram.proofs.Unfenced.{level_unfenced, avoids_unfenced}
use Rattle.xs_gram.specs.Grammar.{Grammar}
use Rattle.xs_gram.specs.Building.{EachOf, NamesThere, IsRuleAmong, IsFit, IsOf, CanBuild, HasProperFences, items_count}
use Rattle.xs_pair.specs.declared.ill.IllRule.TheVariants.{Undefined, NoStart, NameOnce, Kind}
use Rattle.xs_pair.specs.declared.mark.Mark.{Mark}
use Rattle.xs_pair.specs.declared.mark.Mark.TheVariants.{Opening, Attribute, AttributeEnd, Closing, Value, Content}
use Rattle.xs_pair.specs.declared.names.Sort.TheVariants as S
use Rattle.xs_pair.specs.declared.production.Rule.{Rule}
use Rattle.xs_pair.specs.Fences.{AreFences}
use Rattle.xs_pair.specs.Grammars.{numbering, rule_part, rule_parts, flat_marks, side_of, AreTermsOf, AreSkipsOf, ArePartsOf, IsGramOf}
use Rattle.xs_pair.specs.Listing.{rule_of, rules_of, names_in}
use Rattle.xs_pair.specs.Marks.{mark_names, slot_names}
use Rattle.xs_pair.specs.Rules.{IsAmong, IsAbsent}
use Rattle.xs_pair.specs.Units.{names_of, nons_of, terms_of, skips_of}
use Rattle.xs_pair.specs.Verdict.{FailsAt, FailsIn, NoneFails, tables_of}
use Rattle.xs_pair.specs.Weights.{marks_weight, rule_weight, weight, AreLight}
use Rattle.xs_pair.proofs.Places.{among_or_absent}
use Rattle.xs_pair.proofs.Numbering.{number_bound, among_at, firsts_have, rule_is_named}
use Rattle.xs_pair.proofs.Once.{once_left, once_right, once_back, once_forth}
use Rattle.xs_pair.proofs.Shorter.{names_short}
use Rattle.xs_pair.proofs.TextFences.{text_proper}
use Rattle.xs_pair.proofs.Strings.{rules_low}
use Rattle.xs_pair.proofs.XmlFences.{xml_proper}
use Rattle.xs_pair.proofs.Buildable.{marks_there, flat_slots, are_numbered, marks_short}

each_map : {A B : Type 0} (P : B → Type 0) (f : A → B) (xs : List A) → ((k : ℕ) (x : A) → slice_get xs k ≡ Some x → P (f x)) → EachOf P (map f xs)
each_map P f [] h = tt
each_map P f (x ∷ xs) h = (h 0 x refl, each_map P f xs (λ k y at. h (suc k) y at))

-- a rule on productions does not fail in one
pub passes : (s : Sheet) (k : ℕ) (r : Rule) → NoneFails (FailsAt s) → slice_get (rules_of s.units) k ≡ Some r → (FailsIn Undefined (tables_of s) r → ⊥) × (FailsIn NameOnce (tables_of s) r → ⊥) × (FailsIn Kind (tables_of s) r → ⊥)
passes s k r none at = (
  λ h. none Undefined r.line (k, r, at, h, refl),
  λ h. none NameOnce r.line (k, r, at, h, refl),
  λ h. none Kind r.line (k, r, at, h, refl),
)

side_numbered : (s : Sheet) (names : List (List ℕ)) (side : Side) (r : Rule) → (FailsIn NameOnce (tables_of s) r → ⊥) → IsNumbered (slots (flat_marks (numbering s.units names) (slot_names r.left) (side_of side r)))
side_numbered s names Text r once =
    let left = slot_names r.left in
    let one = once_left left (slot_names r.right) once in
    subst IsNumbered (sym (flat_slots (numbering s.units names) left r.left)) (are_numbered left left one one (among_at left) (among_at left))
side_numbered s names Xml r once =
    let left = slot_names r.left in
    let right = slot_names r.right in
    subst IsNumbered (sym (flat_slots (numbering s.units names) left r.right)) (are_numbered left right (once_left left right once) (once_right left right once) (once_back left right once) (once_forth left right once))

side_there : (s : Sheet) (names : List (List ℕ)) (side : Side) (r : Rule) → (FailsIn Undefined (tables_of s) r → ⊥) → (FailsIn Kind (tables_of s) r → ⊥) → EachOf (NamesThere (length (nons_of s.units)) (length (terms_of s.units)) (length (skips_of s.units))) (flat_marks (numbering s.units names) (slot_names r.left) (side_of side r))
side_there s names Text r named kind = marks_there s.units names (slot_names r.left) r.left (λ h. named (inl h)) (λ h. kind (inl (inl h)))
side_there s names Xml r named kind = marks_there s.units names (slot_names r.left) r.right (λ h. named (inr h)) (λ h. kind (inl (inr h)))

rule_among : (s : Sheet) (names : List (List ℕ)) (side : Side) (k : ℕ) (r : Rule) → NoneFails (FailsAt s) → slice_get (rules_of s.units) k ≡ Some r → IsRuleAmong (length (nons_of s.units)) (length (terms_of s.units)) (length (skips_of s.units)) (rule_part (numbering s.units names) side r)
rule_among s names side k r none at =
    let (named, once, kind) = passes s k r none at in record {
      non = number_bound (nons_of s.units) r.name (rule_is_named s.units k r at);
      items = side_there s names side r named kind;
      slots = side_numbered s names side r once;
    }

-- as many regexes as terminals, and parts as ignorables
terms_long : (us : List Unit) (rs : List Regex) → AreTermsOf us rs → length rs ≡ length (terms_of us)
terms_long [] [] are = refl
terms_long [] (r ∷ rs) are = absurd are
terms_long (V.Terminal name pattern regex line ∷ us) [] are = absurd are
terms_long (V.Terminal name pattern regex line ∷ us) (r ∷ rs) are = ap suc (terms_long us rs are.1)
terms_long (V.Ignorable name pattern regex normal line ∷ us) rs are = terms_long us rs are
terms_long (V.Fence left right line ∷ us) rs are = terms_long us rs are
terms_long (V.Production name left right line ∷ us) rs are = terms_long us rs are

skips_long : (us : List Unit) (ks : List SkipPart) → AreSkipsOf us ks → length ks ≡ length (skips_of us)
skips_long [] [] are = refl
skips_long [] (k ∷ ks) are = absurd are
skips_long (V.Terminal name pattern regex line ∷ us) ks are = skips_long us ks are
skips_long (V.Ignorable name pattern regex normal line ∷ us) [] are = absurd are
skips_long (V.Ignorable name pattern regex normal line ∷ us) (k ∷ ks) are = ap suc (skips_long us ks are.2)
skips_long (V.Fence left right line ∷ us) ks are = skips_long us ks are
skips_long (V.Production name left right line ∷ us) ks are = skips_long us ks are

-- what the weight of a sheet bounds
pub units_light : (us : List Unit) → length us ≤ weight us
units_light [] = omega arith
units_light (V.Terminal name pattern regex line ∷ us) = let rest = units_light us in omega arith
units_light (V.Ignorable name pattern regex normal line ∷ us) = let rest = units_light us in omega arith
units_light (V.Fence left right line ∷ us) = let rest = units_light us in omega arith
units_light (V.Production name left right line ∷ us) = let rest = units_light us in omega arith

rules_short : (us : List Unit) → length (rules_of us) ≤ length us
rules_short [] = omega arith
rules_short (V.Terminal name pattern regex line ∷ us) = let rest = rules_short us in omega arith
rules_short (V.Ignorable name pattern regex normal line ∷ us) = let rest = rules_short us in omega arith
rules_short (V.Fence left right line ∷ us) = let rest = rules_short us in omega arith
rules_short (V.Production name left right line ∷ us) = let rest = rules_short us in omega arith

parts_light : (names : List (List ℕ)) (all : List Unit) (side : Side) (us : List Unit) → (items_count (rule_parts (numbering all names) side (rules_of us)) ≤ weight us) × (symbols_count (rule_parts (numbering all names) side (rules_of us)) ≤ weight us)
parts_light names all side [] = (omega arith, omega arith)
parts_light names all side (V.Terminal name pattern regex line ∷ us) = let rest = parts_light names all side us in (omega (arith, rest.0), omega (arith, rest.1))
parts_light names all side (V.Ignorable name pattern regex normal line ∷ us) = let rest = parts_light names all side us in (omega (arith, rest.0), omega (arith, rest.1))
parts_light names all side (V.Fence left right line ∷ us) = let rest = parts_light names all side us in (omega (arith, rest.0), omega (arith, rest.1))
parts_light names all Text (V.Production name left right line ∷ us) =
    let r = rule_of name left right line in
    let rest = parts_light names all Text us in
    let one = marks_short (numbering all names) (slot_names r.left) r.left in
    (omega (arith, rest.0, one.0), omega (arith, rest.1, one.1))
parts_light names all Xml (V.Production name left right line ∷ us) =
    let r = rule_of name left right line in
    let rest = parts_light names all Xml us in
    let one = marks_short (numbering all names) (slot_names r.left) r.right in
    (omega (arith, rest.0, one.0), omega (arith, rest.1, one.1))

rule_light : (us : List Unit) (k : ℕ) (r : Rule) → slice_get (rules_of us) k ≡ Some r → rule_weight r ≤ weight us
rule_light [] k r at = absurd (none-some r at)
rule_light (V.Terminal name pattern regex line ∷ us) k r at = let rest = rule_light us k r at in omega arith
rule_light (V.Ignorable name pattern regex normal line ∷ us) k r at = let rest = rule_light us k r at in omega arith
rule_light (V.Fence left right line ∷ us) k r at = let rest = rule_light us k r at in omega arith
rule_light (V.Production name left right line ∷ us) zero r at =
    let same : rule_weight (rule_of name left right line) ≡ rule_weight r = ap rule_weight (same_Some (rule_of name left right line) r at) in omega arith
rule_light (V.Production name left right line ∷ us) (suc k) r at = let rest = rule_light us k r at in omega arith

pub all_light : (us : List Unit) → weight us < 65536 → AreLight (rules_of us)
all_light us few k r at = let light = rule_light us k r at in omega arith

mark_names_short : (ms : List Mark) → length (mark_names ms) ≤ marks_weight ms
mark_names_short [] = omega arith
mark_names_short (Opening tag names ∷ ms) = let rest = mark_names_short ms in omega arith
mark_names_short (Attribute name ∷ ms) = let rest = mark_names_short ms in omega arith
mark_names_short (AttributeEnd ∷ ms) = let rest = mark_names_short ms in omega arith
mark_names_short (Closing tag ∷ ms) = let rest = mark_names_short ms in omega arith
mark_names_short (Value i ∷ ms) = let rest = mark_names_short ms in omega arith
mark_names_short (Content i ∷ ms) = let rest = mark_names_short ms in omega arith

pub names_light : (us : List Unit) → length (names_in (rules_of us)) ≤ weight us
names_light [] = omega arith
names_light (V.Terminal name pattern regex line ∷ us) = let rest = names_light us in omega arith
names_light (V.Ignorable name pattern regex normal line ∷ us) = let rest = names_light us in omega arith
names_light (V.Fence left right line ∷ us) = let rest = names_light us in omega arith
names_light (V.Production name left right line ∷ us) =
    let r = rule_of name left right line in
    omega (arith, length-append (mark_names r.right) (names_in (rules_of us)), mark_names_short r.right, names_light us)

start_named : (s : Sheet) → NoneFails (FailsAt s) → IsAmong (nons_of s.units) s.start
start_named s none = by_case (among_or_absent (names_of S.Production s.units) s.start)
  where
    by_case : IsAmong (names_of S.Production s.units) s.start ⊎ IsAbsent (names_of S.Production s.units) s.start → IsAmong (nons_of s.units) s.start
    by_case (inl h) = firsts_have (names_of S.Production s.units) s.start h
    by_case (inr h) = absurd (none NoStart s.start_line (h, refl))

each_of : {A : Type 0} (P : A → Type 0) (xs : List A) → ((x : A) → P x) → EachOf P xs
each_of P [] h = tt
each_of P (x ∷ xs) h = (h x, each_of P xs h)

-- without fences the fences are proper
unfenced : (parts : GramParts) → parts.fences ≡ [] → HasProperFences parts
unfenced parts none = record {
  once = subst (λ fs. IsDistinct (fence_symbols fs)) (sym none) tt;
  each_term = subst (λ fs. EachOf (AvoidsFences fs) parts.terms) (sym none) (each_of (AvoidsFences []) parts.terms avoids_unfenced);
  each_skip = subst (λ fs. EachOf (λ k. AvoidsFences fs k.regex) parts.skips) (sym none) (each_of (λ k. AvoidsFences [] k.regex) parts.skips (λ k. avoids_unfenced k.regex));
  each_rule = subst (λ fs. EachOf (λ r. IsLevel fs (spread_items fs r.items)) parts.rules) (sym none) (each_of (λ r. IsLevel [] (spread_items [] r.items)) parts.rules (λ r. level_unfenced (spread_items [] r.items)));
}

-- the fences of either side are proper
proper : (bytes : List ℕ) (s : Sheet) (names : List (List ℕ)) (side : Side) (parts : GramParts) → IsSheetOf bytes s → AreNamesOf (names_in (rules_of s.units)) names → ArePartsOf s names side parts → AreFences s names side parts.fences → HasProperFences parts
proper bytes s names Text parts of named are (inl (none, is)) = text_proper s names parts are none is
proper bytes s names Text parts of named are (inr (some, is)) = unfenced parts is
proper bytes s names Xml parts of named are (inl (two, is)) = xml_proper s.units names parts (rules_low bytes s of) named are.rules are.terms are.skips is
proper bytes s names Xml parts of named are (inr (one, is)) = unfenced parts is

pub can_build : (bytes : List ℕ) (s : Sheet) (names : List (List ℕ)) (side : Side) (parts : GramParts) → IsSheetOf bytes s → AreNamesOf (names_in (rules_of s.units)) names → ArePartsOf s names side parts → EachOf IsFit parts.terms → EachOf (λ k. IsFit k.regex) parts.skips → NoneFails (FailsAt s) → weight s.units < 65536 → CanBuild parts
can_build bytes s names side parts of named are terms skips none light =
    let us = s.units in
    let n_is : parts.nons ≡ length (nons_of us) = are.nons in
    let t_is : length parts.terms ≡ length (terms_of us) = terms_long us parts.terms are.terms in
    let k_is : length parts.skips ≡ length (skips_of us) = skips_long us parts.skips are.skips in
    let short = units_light us in
    let counts = parts_light names us side us in record {
      start = rw (are.start, are.nons) (number_bound (nons_of us) s.start (start_named s none));
      each_rule = rw (are.rules, n_is, t_is, k_is) (each_map (IsRuleAmong (length (nons_of us)) (length (terms_of us)) (length (skips_of us))) (rule_part (numbering us names) side) (rules_of us) (λ k r at. rule_among s names side k r none at));
      each_term = terms;
      each_skip = skips;
      rules = rw are.rules (omega (arith, length-map (rules_of us) (rule_part (numbering us names) side), rules_short us, short, light));
      terms = omega (arith, t_is, names_short S.Terminal us, short, light);
      skips = omega (arith, k_is, names_short S.Ignorable us, short, light);
      items = rw are.rules (omega (arith, counts.0, light));
      symbols = rw are.rules (omega (arith, counts.1, light));
      fences = proper bytes s names side parts of named are are.fences;
    }

-- the grammar of the parts of a side is the grammar of that side
pub gram_is : (s : Sheet) (names : List (List ℕ)) (side : Side) (parts : GramParts) (g : Grammar) → ArePartsOf s names side parts → IsOf parts g → IsGramOf s names side g
gram_is s names side parts g are of = record {
  start = of.start ∙ are.start;
  nons = of.nons ∙ are.nons;
  rules = of.rules ∙ are.rules;
  terms = subst (λ rs. AreTermsOf s.units rs) (sym of.terms) are.terms;
  skips = subst (λ ks. AreSkipsOf s.units ks) (sym of.skips) are.skips;
  fences = subst (AreFences s names side) (sym of.fences) are.fences;
}
