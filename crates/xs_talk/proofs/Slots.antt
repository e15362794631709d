-- Where the grammars are those of a sheet, each slot of the text side has a name.
use Rattle.std.proofs.Common.{◌≡◌, ℕ, zero, suc, ◌<◌, List, [], ◌∷◌, length, map, refl, sym, ◌∙◌, ap, subst, arith}
use Rattle.std.specs.Prelude.{slice_index_or}
use Rattle.std.proofs.lemmas.List.{length-map}
use Rattle.xs_class.specs.declared.side.Side.TheVariants.{Text}
use Rattle.xs_gram.specs.declared.parts.GItem.{GItem}
use Rattle.xs_gram.specs.declared.parts.GItem.TheVariants.{Fixed, Term, Non, Skip}
use Rattle.xs_gram.specs.declared.parts.RulePart.{RulePart}
use Rattle.xs_gram.specs.Grammar.{items, slots, no_rule}
use Rattle.xs_gram.specs.Laws.{Every, HasNumberedSlots}
use Rattle.xs_sheet.specs.declared.sheet.Sheet.{Sheet}
use Rattle.xs_pair.specs.declared.mark.Mark.{Mark}
use Rattle.xs_pair.specs.declared.production.Rule.{Rule}
use Rattle.xs_gram.proofs.Printed.{kinds_long}
use Rattle.xs_pair.specs.Grammars.{Pair, IsPairOf, Numbering, numbering, flat_marks, rule_part}
use Rattle.xs_pair.specs.Listing.{rules_of}
use Rattle.xs_pair.specs.Marks.{slot_names, slots_of}
use Rattle.xs_pair.proofs.SlotKinds.{numbered, flat_kinds}
use Rattle.xs_talk.specs.Slots.{AreNamed, HasSlotNames}

-- a side's items have as many slots as there are names of slots
slots_long : (n : Numbering) (sl : List (List ℕ)) (ms : List Mark) → length (slots (flat_marks n sl ms)) ≡ length (slot_names ms)
slots_long n sl ms =
    sym (kinds_long (flat_marks n sl ms)) ∙ ap length (flat_kinds n sl ms) ∙ length-map (slots_of ms) (numbered n sl) ∙ sym (length-map (slots_of ms) (λ (s : List ℕ × List ℕ). s.0))

-- the rule of a number, in lists of what each rule gives
rule_at : (f : Rule → RulePart) (g : Rule → List (List ℕ)) (rs : List Rule) (k : ℕ) → k < length (map f rs) → (r : Rule) × (slice_index_or (map f rs) k no_rule ≡ f r) × (slice_index_or (map g rs) k [] ≡ g r) × (k < length (map g rs))
rule_at f g [] k lt = absurd (omega (arith, lt))
rule_at f g (r ∷ rs) zero lt = (r, refl, refl, omega arith)
rule_at f g (r ∷ rs) (suc k) lt =
    let later = rule_at f g rs k (omega (arith, lt)) in
    (later.0, later.1, later.2, omega (arith, later.3))

named_from : (p : Pair) (rule : ℕ) (is : List GItem) → rule < length p.slots → Every (λ m. m < length (slice_index_or p.slots rule [])) (slots is) → AreNamed p rule is
named_from p rule [] there below = tt
named_from p rule (Fixed f ∷ is) there below = (tt, named_from p rule is there below)
named_from p rule (Term t s ∷ is) there (first, below) = ((there, first), named_from p rule is there below)
named_from p rule (Non n s ∷ is) there (first, below) = ((there, first), named_from p rule is there below)
named_from p rule (Skip k ∷ is) there below = (tt, named_from p rule is there below)

-- the slots of the two grammars of a sheet have names
pub pair_has_slot_names : (s : Sheet) (p : Pair) → IsPairOf s p → HasNumberedSlots p.text → HasSlotNames p
pair_has_slot_names s p pair numbers rule lt =
    let rs = rules_of s.units in
    let n = numbering s.units p.names in
    let names_of : Rule → List (List ℕ) = λ r. slot_names r.left in
    let at = rule_at (rule_part n Text) names_of rs rule (subst (λ (l : List RulePart). rule < length l) pair.text.rules lt) in
    let is : items p.text rule ≡ flat_marks n (slot_names at.0.left) at.0.left =
    ap (λ (l : List RulePart). (slice_index_or l rule no_rule).items) pair.text.rules ∙ ap (λ (r : RulePart). r.items) at.1 in
    let names : slice_index_or p.slots rule [] ≡ slot_names at.0.left = ap (λ (l : List (List (List ℕ))). slice_index_or l rule []) pair.slots ∙ at.2 in
    let long : length (slots (items p.text rule)) ≡ length (slice_index_or p.slots rule []) =
    ap (λ (l : List GItem). length (slots l)) is ∙ slots_long n (slot_names at.0.left) at.0.left ∙ ap length (sym names) in
    named_from p rule (items p.text rule) (subst (λ (l : List (List (List ℕ))). rule < length l) (sym pair.slots) at.3)
    (subst (λ k. Every (λ m. m < k) (slots (items p.text rule))) long (numbers rule).below)
