-- A common tree fits on one side exactly where it fits on the other.
use Rattle.std.proofs.Common.{◌≡◌, ◌∙◌, ◌+◌, subst, ℕ, List, Some, None}
use Rattle.std.specs.declared.option.Option.{Option}
use Rattle.xs_gram.specs.declared.parts.GItem.{GItem}
use Rattle.xs_gram.specs.Grammar.{Grammar, items, IsRuleOf, IsTermWord}
use Rattle.xs_gram.specs.Common.{Common, word, made, Kids, no_kid, kid, Kind, of_term, of_non, kinds, lookup, TreeFits, KidsFit, KidFits}
use Rattle.xs_pair.proofs.SlotKinds.{SameKinds}

-- two grammars with the same rules, kinds of slots and words of terminals, one way
pub record AreAlike (g h : Grammar) : Type 0 where
  pub rules : (non p : ℕ) → IsRuleOf g non p → IsRuleOf h non p
  pub kinds : (p : ℕ) → SameKinds (items g p) (items h p)
  pub words : (t : ℕ) (w : List ℕ) → IsTermWord g t w → IsTermWord h t w

word_fits : (g h : Grammar) → AreAlike g h → (k : Option Kind) (w : List ℕ) → KidFits g k (word w) → KidFits h k (word w)
word_fits g h alike None w fits = absurd fits
word_fits g h alike (Some (of_term t)) w fits = alike.words t w fits
word_fits g h alike (Some (of_non n)) w fits = absurd fits

made_fits : (g h : Grammar) → AreAlike g h → (k : Option Kind) (p : ℕ) (kids : Kids) → KidFits g k (made p kids) → (KidsFit g (items g p) 0 kids → KidsFit h (items h p) 0 kids) → KidFits h k (made p kids)
made_fits g h alike None p kids fits inner = absurd fits
made_fits g h alike (Some (of_term t)) p kids fits inner = absurd fits
made_fits g h alike (Some (of_non n)) p kids fits inner = (alike.rules n p fits.0, inner fits.1)

mutual
  kids_fit : (g h : Grammar) → AreAlike g h → (is js : List GItem) → SameKinds is js → (slot : ℕ) (kids : Kids) → KidsFit g is slot kids → KidsFit h js slot kids
  kids_fit g h alike is js same slot no_kid fits = fits ∙ same.long
  kids_fit g h alike is js same slot (kid t kids) fits = (kid_fits g h alike (lookup slot (kinds is)) (lookup slot (kinds js)) (same.same slot) t fits.0, kids_fit g h alike is js same (slot + 1) kids fits.1)

  kid_fits : (g h : Grammar) → AreAlike g h → (k l : Option Kind) → k ≡ l → (t : Common) → KidFits g k t → KidFits h l t
  kid_fits g h alike k l is (word w) fits = subst (λ m. KidFits h m (word w)) is (word_fits g h alike k w fits)
  kid_fits g h alike k l is (made p kids) fits = subst (λ m. KidFits h m (made p kids)) is (made_fits g h alike k p kids fits (λ f. kids_fit g h alike (items g p) (items h p) (alike.kinds p) 0 kids f))

pub tree_fits : (g h : Grammar) → AreAlike g h → (non : ℕ) (t : Common) → TreeFits g non t → TreeFits h non t
tree_fits g h alike non (word w) fits = absurd fits
tree_fits g h alike non (made p kids) fits = (alike.rules non p fits.0, kids_fit g h alike (items g p) (items h p) (alike.kinds p) 0 kids fits.1)
