-- A grammar with other fences: derivations do not see them, and with proper ones it is built as well.
use Rattle.std.proofs.Common.{◌≡◌, ◌∙◌, ℕ, List, [], ◌∷◌, refl, ap}
use Rattle.xs_gram.specs.declared.parts.GItem.{GItem}
use Rattle.xs_gram.specs.declared.parts.GItem.TheVariants.{Fixed, Term, Non, Skip}
use Rattle.xs_gram.specs.Grammar.{Grammar, items, normal_word}
use Rattle.xs_gram.specs.Derivations.{Parts, done, fixed, leaf, skip, sub, Derivation, FitsItems, Fits, normal_parts, normal}
use Rattle.xs_gram.specs.Languages.{Derives, IsUnique}
use Rattle.xs_gram.specs.Sound.{IsProper, IsBuilt, IsNullable, IsNullableItem, IsProductive, LeadsTo, LeadsOn, once, onward, DerivesItself}
use Rattle.xs_sheet_laws.specs.Meanings.{HaveSameDerivations}

-- the grammar with these fences in place of its own
abbrev pub with_fences : Grammar → List (ℕ × ℕ) → Grammar
with_fences g fs = record { start = g.start; nons = g.nons; rules = g.rules; terms = g.terms; skips = g.skips; fences = fs }

module _ (g : Grammar) (fs : List (ℕ × ℕ)) where
  pub fits_items : (is : List GItem) (ps : Parts) → FitsItems g is ps → FitsItems (with_fences g fs) is ps
  fits_items [] done fit = tt
  fits_items (Fixed f ∷ is) (fixed u ps) fit = (fit.0, fits_items is ps fit.1)
  fits_items (Term t s ∷ is) (leaf u ps) fit = (fit.0, fits_items is ps fit.1)
  fits_items (Skip k ∷ is) (skip u ps) fit = (fit.0, fits_items is ps fit.1)
  fits_items (Non n s ∷ is) (sub q qs ps) fit = (fit.0, fits_items (items g q) qs fit.1, fits_items is ps fit.2)
  fits_items is ps fit = absurd fit

  fits : (non : ℕ) (d : Derivation) → Fits g non d → Fits (with_fences g fs) non d
  fits non d fit = (fit.0, fits_items (items g d.rule) d.parts fit.1)

  derives : (w : List ℕ) (d : Derivation) → Derives g w d → Derives (with_fences g fs) w d
  derives w d h = (fits g.start d h.0, h.1)

  parts_same : (is : List GItem) (ps : Parts) → normal_parts g is ps ≡ normal_parts (with_fences g fs) is ps
  parts_same (Fixed f ∷ is) (fixed u ps) = ap (λ qs. fixed u qs) (parts_same is ps)
  parts_same (Term t s ∷ is) (leaf u ps) = ap (λ qs. leaf u qs) (parts_same is ps)
  parts_same (Skip k ∷ is) (skip u ps) = ap (λ qs. skip (normal_word g k) qs) (parts_same is ps)
  parts_same (Non n s ∷ is) (sub q qs ps) =
      ap (λ rs. sub q rs (normal_parts g is ps)) (parts_same (items g q) qs) ∙ ap (λ rs. sub q (normal_parts (with_fences g fs) (items g q) qs) rs) (parts_same is ps)
  parts_same is ps = refl

  normal_same : (d : Derivation) → normal g d ≡ normal (with_fences g fs) d
  normal_same d = ap (λ (ps : Parts). let x : Derivation = record { rule = d.rule; parts = ps } in x) (parts_same (items g d.rule) d.parts)

  productive : (n : ℕ) → IsProductive g n → IsProductive (with_fences g fs) n
  productive n (d, fit) = (d, fits n d fit)

  nullable : (n : ℕ) → IsNullable g n → IsNullable (with_fences g fs) n
  nullable n (d, fit, is) = (d, fits n d fit, is)

  nullable_item : (i : GItem) → IsNullableItem g i → IsNullableItem (with_fences g fs) i
  nullable_item (Fixed f) is = is
  nullable_item (Term t s) is = is
  nullable_item (Non n s) is = nullable n is
  nullable_item (Skip k) is = is

  leads : {n m : ℕ} → LeadsTo g n m → LeadsTo (with_fences g fs) n m
  leads l = record { rule = l.rule; dot = l.dot; slot = l.slot; of = l.of; item = l.item; others = λ k other ne at. nullable_item other (l.others k other ne at) }

  leads_on : {n m : ℕ} → LeadsOn g n m → LeadsOn (with_fences g fs) n m
  leads_on (once l) = once (leads l)
  leads_on (onward l r) = onward (leads l) (leads_on r)

module _ (g : Grammar) (fs : List (ℕ × ℕ)) where
  -- derivations are those of the same grammar with other fences
  pub same_derivations : HaveSameDerivations (with_fences g fs) g
  same_derivations = record {
    fits = λ non d. (fits (with_fences g fs) g.fences non d, fits g fs non d);
    derives = λ w d. (derives (with_fences g fs) g.fences w d, derives g fs w d);
    normal = λ d. normal_same (with_fences g fs) g.fences d;
    unique = (
      λ (one : IsUnique (with_fences g fs)) w d e a b. one w d e (derives g fs w d a) (derives g fs w e b),
      λ (one : IsUnique g) w d e a b. one w d e (derives (with_fences g fs) g.fences w d a) (derives (with_fences g fs) g.fences w e b),
    );
  }

  -- and so are the nonterminals that derive a word, and those that derive themselves alone
  pub not_productive : (n : ℕ) → (IsProductive g n → ⊥) → IsProductive (with_fences g fs) n → ⊥
  not_productive n none some = none (productive (with_fences g fs) g.fences n some)

  pub derives_itself : (n : ℕ) → DerivesItself g n → DerivesItself (with_fences g fs) n
  derives_itself n on = leads_on g fs on

pub derivations_join : (g h k : Grammar) → HaveSameDerivations g h → HaveSameDerivations h k → HaveSameDerivations g k
derivations_join g h k one two = record {
  fits = λ non d. (λ fit. (two.fits non d).0 ((one.fits non d).0 fit), λ fit. (one.fits non d).1 ((two.fits non d).1 fit));
  derives = λ w d. (λ is. (two.derives w d).0 ((one.derives w d).0 is), λ is. (one.derives w d).1 ((two.derives w d).1 is));
  normal = λ d. one.normal d ∙ two.normal d;
  unique = (λ is. two.unique.0 (one.unique.0 is), λ is. one.unique.1 (two.unique.1 is));
}

pub built_with : (g : Grammar) (fs : List (ℕ × ℕ)) → IsBuilt g → IsProper (with_fences g fs) → IsBuilt (with_fences g fs)
built_with g fs built proper = record {
  range = record { start = built.range.start; rules = built.range.rules; terms = built.range.terms; nons = built.range.nons; skips = built.range.skips; words = built.range.words };
  small = record { rules = built.small.rules; items = built.small.items; terms = built.small.terms; skips = built.small.skips; symbols = built.small.symbols };
  slots = built.slots;
  automata = record { terms = built.automata.terms; skips = built.automata.skips; terms_bounded = built.automata.terms_bounded; skips_bounded = built.automata.skips_bounded };
  proper = proper;
}
