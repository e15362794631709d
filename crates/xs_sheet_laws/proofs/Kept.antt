-- Derivations, trees and words of a grammar with other terminals and ignorables.
use Rattle.std.proofs.Common.{◌≡◌, ◌∙◌, ℕ, ◌+◌, List, [], ◌∷◌, ◌++◌, refl, sym, ap, None, Some}
use Rattle.std.specs.declared.option.Option.{Option}
use Rattle.xs_gram.specs.declared.parts.GItem.{GItem}
use Rattle.xs_gram.specs.declared.parts.GItem.TheVariants.{Fixed, Term, Non, Skip}
use Rattle.xs_gram.specs.declared.parts.Terminal.{Terminal}
use Rattle.xs_gram.specs.declared.parts.Ignorable.{Ignorable}
use Rattle.xs_gram.specs.Grammar.{Grammar, items, IsTermWord, IsSkipWord, normal_word}
use Rattle.xs_gram.specs.Derivations.{Parts, done, fixed, leaf, skip, sub, Derivation, FitsItems, Fits, normal_parts, normal}
use Rattle.xs_gram.specs.Common.{Common, word, made, Kids, no_kid, kid, Kind, of_term, of_non, kinds, lookup, children, named, strip, spelling, word_at, print, print_kids, TreeFits, KidsFit, KidFits}
use Rattle.xs_gram.specs.Languages.{Derives, InLang, HasTree, IsFront}
use Rattle.xs_sheet_laws.proofs.Other.{with_parts}

-- each word of a terminal or an ignorable is one with the other parts
pub record KeepsWords (g h : Grammar) : Type 0 where
  pub terms : (t : ℕ) (w : List ℕ) → IsTermWord g t w → IsTermWord h t w
  pub skips : (k : ℕ) (w : List ℕ) → IsSkipWord g k w → IsSkipWord h k w

module _ (g : Grammar) (ts : List Terminal) (ks : List Ignorable) where
  fits_kept : KeepsWords g (with_parts g ts ks) → (is : List GItem) (ps : Parts) → FitsItems g is ps → FitsItems (with_parts g ts ks) is ps
  fits_kept keeps [] done fit = tt
  fits_kept keeps (Fixed f ∷ is) (fixed u ps) fit = (fit.0, fits_kept keeps is ps fit.1)
  fits_kept keeps (Term t s ∷ is) (leaf u ps) fit = (keeps.terms t u fit.0, fits_kept keeps is ps fit.1)
  fits_kept keeps (Skip k ∷ is) (skip u ps) fit = (keeps.skips k u fit.0, fits_kept keeps is ps fit.1)
  fits_kept keeps (Non n s ∷ is) (sub q qs ps) fit = (fit.0, fits_kept keeps (items g q) qs fit.1, fits_kept keeps is ps fit.2)
  fits_kept keeps is ps fit = absurd fit

  pub fits : KeepsWords g (with_parts g ts ks) → (non : ℕ) (d : Derivation) → Fits g non d → Fits (with_parts g ts ks) non d
  fits keeps non d fit = (fit.0, fits_kept keeps (items g d.rule) d.parts fit.1)

  pub derives : KeepsWords g (with_parts g ts ks) → (w : List ℕ) (d : Derivation) → Derives g w d → Derives (with_parts g ts ks) w d
  derives keeps w d h = (fits keeps g.start d h.0, h.1)

  pub in_lang : KeepsWords g (with_parts g ts ks) → (w : List ℕ) → InLang g w → InLang (with_parts g ts ks) w
  in_lang keeps w (d, h) = (d, derives keeps w d h)

  pub front : KeepsWords g (with_parts g ts ks) → (u : List ℕ) → IsFront g u → IsFront (with_parts g ts ks) u
  front keeps u (v, h) = (v, in_lang keeps (u ++ v) h)

  -- trees
  named_same : (is : List GItem) (ps : Parts) → named g is ps ≡ named (with_parts g ts ks) is ps
  named_same (Fixed f ∷ is) (fixed u ps) = named_same is ps
  named_same (Term t s ∷ is) (leaf u ps) = ap (λ es. (s, word u) ∷ es) (named_same is ps)
  named_same (Skip k ∷ is) (skip u ps) = named_same is ps
  named_same (Non n s ∷ is) (sub q qs ps) =
      ap (λ (es : List (ℕ × Common)). (s, made q (children es)) ∷ named g is ps) (named_same (items g q) qs) ∙ ap (λ es. (s, made q (children (named (with_parts g ts ks) (items g q) qs))) ∷ es) (named_same is ps)
  named_same is ps = refl

  pub strip_same : (d : Derivation) → strip g d ≡ strip (with_parts g ts ks) d
  strip_same d = ap (λ (es : List (ℕ × Common)). made d.rule (children es)) (named_same (items g d.rule) d.parts)

  pub has_tree : KeepsWords g (with_parts g ts ks) → (w : List ℕ) (t : Common) → HasTree g w t → HasTree (with_parts g ts ks) w t
  has_tree keeps w t (d, h, is) = (d, derives keeps w d h, sym (strip_same d) ∙ is)

  -- normal spellings and prints
  parts_same : ((k : ℕ) → normal_word g k ≡ normal_word (with_parts g ts ks) k) → (is : List GItem) (ps : Parts) → normal_parts g is ps ≡ normal_parts (with_parts g ts ks) is ps
  parts_same same (Fixed f ∷ is) (fixed u ps) = ap (λ qs. fixed u qs) (parts_same same is ps)
  parts_same same (Term t s ∷ is) (leaf u ps) = ap (λ qs. leaf u qs) (parts_same same is ps)
  parts_same same (Skip k ∷ is) (skip u ps) = ap (λ w. skip w (normal_parts g is ps)) (same k) ∙ ap (λ qs. skip (normal_word (with_parts g ts ks) k) qs) (parts_same same is ps)
  parts_same same (Non n s ∷ is) (sub q qs ps) =
      ap (λ rs. sub q rs (normal_parts g is ps)) (parts_same same (items g q) qs) ∙ ap (λ rs. sub q (normal_parts (with_parts g ts ks) (items g q) qs) rs) (parts_same same is ps)
  parts_same same is ps = refl

  pub normal_same : ((k : ℕ) → normal_word g k ≡ normal_word (with_parts g ts ks) k) → (d : Derivation) → normal g d ≡ normal (with_parts g ts ks) d
  normal_same same d = ap (λ (ps : Parts). let x : Derivation = record { rule = d.rule; parts = ps } in x) (parts_same same (items g d.rule) d.parts)

  spelling_same : ((k : ℕ) → normal_word g k ≡ normal_word (with_parts g ts ks) k) → (is : List GItem) (at : ℕ → List ℕ) → spelling g is at ≡ spelling (with_parts g ts ks) is at
  spelling_same same [] at = refl
  spelling_same same (Fixed f ∷ is) at = ap (λ w. f ++ w) (spelling_same same is at)
  spelling_same same (Term t s ∷ is) at = ap (λ w. at s ++ w) (spelling_same same is at)
  spelling_same same (Non n s ∷ is) at = ap (λ w. at s ++ w) (spelling_same same is at)
  spelling_same same (Skip k ∷ is) at = ap (λ v. v ++ spelling g is at) (same k) ∙ ap (λ w. normal_word (with_parts g ts ks) k ++ w) (spelling_same same is at)

  mutual
    pub print_same : ((k : ℕ) → normal_word g k ≡ normal_word (with_parts g ts ks) k) → (t : Common) → print g t ≡ print (with_parts g ts ks) t
    print_same same (word w) = refl
    print_same same (made p kids) =
        ap (λ (ws : List (List ℕ)). spelling g (items g p) (word_at ws)) (kids_same same kids) ∙ spelling_same same (items g p) (word_at (print_kids (with_parts g ts ks) kids))

    kids_same : ((k : ℕ) → normal_word g k ≡ normal_word (with_parts g ts ks) k) → (kids : Kids) → print_kids g kids ≡ print_kids (with_parts g ts ks) kids
    kids_same same no_kid = refl
    kids_same same (kid t kids) = ap (λ w. w ∷ print_kids g kids) (print_same same t) ∙ ap (λ ws. print (with_parts g ts ks) t ∷ ws) (kids_same same kids)

  word_fits : KeepsWords g (with_parts g ts ks) → (k : Option Kind) (w : List ℕ) → KidFits g k (word w) → KidFits (with_parts g ts ks) k (word w)
  word_fits keeps None w fit = absurd fit
  word_fits keeps (Some (of_term t)) w fit = keeps.terms t w fit
  word_fits keeps (Some (of_non n)) w fit = absurd fit

  made_fits : (k : Option Kind) (p : ℕ) (kids : Kids) → (KidsFit g (items g p) 0 kids → KidsFit (with_parts g ts ks) (items g p) 0 kids) → KidFits g k (made p kids) → KidFits (with_parts g ts ks) k (made p kids)
  made_fits None p kids inner fit = absurd fit
  made_fits (Some (of_term t)) p kids inner fit = absurd fit
  made_fits (Some (of_non n)) p kids inner fit = (fit.0, inner fit.1)

  mutual
    kids_fit : KeepsWords g (with_parts g ts ks) → (is : List GItem) (slot : ℕ) (kids : Kids) → KidsFit g is slot kids → KidsFit (with_parts g ts ks) is slot kids
    kids_fit keeps is slot no_kid fit = fit
    kids_fit keeps is slot (kid t kids) fit = (kid_fits keeps (lookup slot (kinds is)) t fit.0, kids_fit keeps is (slot + 1) kids fit.1)

    kid_fits : KeepsWords g (with_parts g ts ks) → (k : Option Kind) (t : Common) → KidFits g k t → KidFits (with_parts g ts ks) k t
    kid_fits keeps k (word w) fit = word_fits keeps k w fit
    kid_fits keeps k (made p kids) fit = made_fits k p kids (λ f. kids_fit keeps (items g p) 0 kids f) fit

  pub tree_fits : KeepsWords g (with_parts g ts ks) → (non : ℕ) (t : Common) → TreeFits g non t → TreeFits (with_parts g ts ks) non t
  tree_fits keeps non (word w) fit = absurd fit
  tree_fits keeps non (made p kids) fit = (fit.0, kids_fit keeps (items g p) 0 kids fit.1)
