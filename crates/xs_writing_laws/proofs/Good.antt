-- What the rules of a well-formed sheet say of the marks of its XML sides.
use Rattle.std.proofs.Common.{◌≡◌, ℕ, List, [], ◌∷◌, Some, Bool, true, false, inl, inr, refl}
use Rattle.std.specs.Prelude.{slice_get}
use Rattle.xs_class.specs.Ordered.{AreNamesOf}
use Rattle.xs_sheet.specs.declared.item.Item.{Item}
use Rattle.xs_sheet.specs.declared.item.Item.TheVariants as I
use Rattle.xs_sheet.specs.declared.sheet.Sheet.{Sheet}
use Rattle.xs_gram.specs.Building.{EachOf}
use Rattle.xs_pair.specs.declared.mark.Mark.{Mark}
use Rattle.xs_pair.specs.declared.mark.Mark.TheVariants.{Opening, Attribute, AttributeEnd, Closing, Value, Content}
use Rattle.xs_pair.specs.declared.production.Rule.{Rule}
use Rattle.xs_pair.specs.Rules.{SomeOf, IsMiskinded, RepeatsAttribute}
use Rattle.xs_pair.specs.Listing.{rules_of, names_in}
use Rattle.xs_pair.specs.Grammars.{Numbering, numbering}
use Rattle.xs_pair.proofs.Places.{among_or_absent}
use Rattle.xs_pair.proofs.Known.{AreKnown, known_names}
use Rattle.xs_writing_laws.specs.Laws.{HasChars, IsOfChars, IsWritable}
use Rattle.xs_pair.proofs.Lists.{each_get}
use Rattle.xs_writing_laws.proofs.Elements.{IsValue, IsGood}

-- what holds of no element does not hold of each
pub none_of : {A : Type 0} (P : A → Type 0) (xs : List A) → (SomeOf P xs → ⊥) → EachOf (λ x. P x → ⊥) xs
none_of P [] never = tt
none_of P (x ∷ xs) never = (λ p. never (inl p), none_of P xs (λ p. never (inr p)))

is_value : (terms skips : List (List ℕ)) (i : Item) → (IsMiskinded terms skips (Value i) → ⊥) → HasChars i → IsValue terms i
is_value terms skips (I.Fixed text) kind chars = chars
is_value terms skips (I.Named name slot) kind chars = elim (among_or_absent terms name) [ inl among ↦ among | inr absent ↦ absurd (kind (inr absent)) ]
is_value terms skips (I.Skip name) kind chars = tt

good_mark : (n : Numbering) (m : Mark) → AreKnown n.names m → (IsMiskinded n.terms n.skips m → ⊥) → (RepeatsAttribute m → ⊥) → IsOfChars m → IsGood n m
good_mark n (Opening tag names) known kind once chars = (known.0, once)
good_mark n (Attribute name) known kind once chars = known.0
good_mark n AttributeEnd known kind once chars = tt
good_mark n (Closing tag) known kind once chars = tt
good_mark n (Value i) known kind once chars = is_value n.terms n.skips i kind chars
good_mark n (Content i) known kind once chars = chars

good_marks : (n : Numbering) (ms : List Mark) → EachOf (AreKnown n.names) ms → EachOf (λ m. IsMiskinded n.terms n.skips m → ⊥) ms → EachOf (λ m. RepeatsAttribute m → ⊥) ms → EachOf IsOfChars ms → EachOf (IsGood n) ms
good_marks n [] known kind once chars = tt
good_marks n (m ∷ ms) known kind once chars = (good_mark n m known.0 kind.0 once.0 chars.0, good_marks n ms known.1 kind.1 once.1 chars.1)

-- what one production has of this
record IsSound (n : Numbering) (r : Rule) : Type 0 where
  kinds : EachOf (λ m. IsMiskinded n.terms n.skips m → ⊥) r.right
  once : EachOf (λ m. RepeatsAttribute m → ⊥) r.right
  chars : EachOf IsOfChars r.right

sound : (s : Sheet) (names : List (List ℕ)) → IsWritable s → (k : ℕ) (r : Rule) → slice_get (rules_of s.units) k ≡ Some r → IsSound (numbering s.units names) r
sound s names well k r at =
    let n : Numbering = numbering s.units names in
    record {
      kinds = none_of (IsMiskinded n.terms n.skips) r.right (λ some. well.kinds r.line (k, r, at, inl (inr some), refl));
      once = none_of RepeatsAttribute r.right (λ some. well.attributes r.line (k, r, at, some, refl));
      chars = well.strings.right k r at;
    }

goods : (n : Numbering) (rules : List Rule) → EachOf (λ (r : Rule). EachOf (AreKnown n.names) r.right) rules → EachOf (IsSound n) rules → EachOf (λ (r : Rule). EachOf (IsGood n) r.right) rules
goods n [] known each = tt
goods n (r ∷ rules) known each = (good_marks n r.right known.0 each.0.kinds each.0.once each.0.chars, goods n rules known.1 each.1)

-- the marks of each production's XML side are good
pub good_rules : (s : Sheet) (names : List (List ℕ)) → IsWritable s → AreNamesOf (names_in (rules_of s.units)) names → EachOf (λ (r : Rule). EachOf (IsGood (numbering s.units names)) r.right) (rules_of s.units)
good_rules s names well are =
    let n : Numbering = numbering s.units names in
    goods n (rules_of s.units) (known_names (rules_of s.units) names are) (each_get (IsSound n) (rules_of s.units) (sound s names well))

not_false : (b : Bool) → (b ≡ false → ⊥) → b ≡ true
not_false true never = refl
not_false false never = absurd (never refl)

-- a production of the start is one element
pub root_rules : (s : Sheet) → IsWritable s → EachOf (λ (r : Rule). r.name ≡ s.start → r.is_element ≡ true) (rules_of s.units)
root_rules s well = each_get (λ (r : Rule). r.name ≡ s.start → r.is_element ≡ true) (rules_of s.units) (λ k r at of. not_false r.is_element (λ other. well.root r.line (k, r, at, record { of_start = of; other = other }, refl)))
