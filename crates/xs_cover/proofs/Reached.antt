-- A tree uses productions of reached nonterminals alone.
use Rattle.std.proofs.Common.{◌≡◌, ◌⊎◌, inl, inr, ℕ, ◌+◌, ◌<◌, List, length, refl, sym, subst, Some, None, true, slice_get}
use Rattle.std.specs.declared.option.Option.{Option}
use Rattle.xs_gram.specs.declared.parts.GItem.{GItem}
use Rattle.xs_gram.specs.declared.parts.GItem.TheVariants.{Non}
use Rattle.xs_gram.specs.Grammar.{Grammar, rule_of, items, ItemAt, IsRuleOf}
use Rattle.xs_gram.specs.Common.{Kids, Kind, word, made, no_kid, kid, of_term, of_non, lookup, kinds, KidsFit, KidFits}
use Rattle.xs_cover.specs.Sizes.{SomeUses}
use Rattle.xs_cover.specs.Laws.{UnreachedIsNotShown}
use Rattle.xs_cover.proofs.Sizes.{inner_fit}
use Rattle.xs_cover.proofs.Costs.{item_of}

-- what has a nonterminal has those in its rules
abbrev IsKept : Grammar → (ℕ → Type 0) → Type 0
IsKept g Has = (q n m s : ℕ) → q < length g.rules → Has (rule_of g q).non → ItemAt g q n (Non m s) → Has m

-- it has each nonterminal among the items
abbrev HasAll : (ℕ → Type 0) → List GItem → Type 0
HasAll Has is = (n m s : ℕ) → slice_get is n ≡ Some (Non m s) → Has m

kid_reached : (g : Grammar) (Has : ℕ → Type 0) (is : List GItem) (slot q : ℕ) (inner : Kids) (kind : Option Kind) → lookup slot (kinds is) ≡ kind → HasAll Has is → KidFits g kind (made q inner) → (q < length g.rules) × Has (rule_of g q).non
kid_reached g Has is slot q inner None found all fit = absurd fit
kid_reached g Has is slot q inner (Some (of_term t)) found all fit = absurd fit
kid_reached g Has is slot q inner (Some (of_non n)) found all fit =
    let item = item_of is slot n found in
    (fit.0.0, subst Has (sym fit.0.1) (all item.dot n item.slot item.at))

kids_reached : (g : Grammar) (Has : ℕ → Type 0) (p : ℕ) (is : List GItem) (slot : ℕ) (kids : Kids) → IsKept g Has → HasAll Has is → KidsFit g is slot kids → SomeUses kids p → Has (rule_of g p).non
kids_reached g Has p is slot no_kid kept all fit uses = absurd uses
kids_reached g Has p is slot (kid (word w) kids) kept all fit (inl u) = absurd u
kids_reached g Has p is slot (kid (word w) kids) kept all fit (inr u) = kids_reached g Has p is (slot + 1) kids kept all fit.1 u
kids_reached g Has p is slot (kid (made q inner) kids) kept all fit (inl (inl e)) =
    let here = kid_reached g Has is slot q inner (lookup slot (kinds is)) refl all fit.0 in
    subst (λ r. Has (rule_of g r).non) e here.1
kids_reached g Has p is slot (kid (made q inner) kids) kept all fit (inl (inr u)) =
    let here = kid_reached g Has is slot q inner (lookup slot (kinds is)) refl all fit.0 in
    kids_reached g Has p (items g q) 0 inner kept (λ n m s at. kept q n m s here.0 here.1 at) (inner_fit g (lookup slot (kinds is)) q inner fit.0) u
kids_reached g Has p is slot (kid (made q inner) kids) kept all fit (inr u) = kids_reached g Has p is (slot + 1) kids kept all fit.1 u

root_reached : (g : Grammar) (Has : ℕ → Type 0) (p q : ℕ) (kids : Kids) → Has g.start → IsKept g Has → IsRuleOf g g.start q → KidsFit g (items g q) 0 kids → (q ≡ p) ⊎ SomeUses kids p → Has (rule_of g p).non
root_reached g Has p q kids start kept of fit (inl e) = subst (λ r. Has (rule_of g r).non) e (subst Has (sym of.1) start)
root_reached g Has p q kids start kept of fit (inr u) = kids_reached g Has p (items g q) 0 kids kept (λ n m s at. kept q n m s of.0 (subst Has (sym of.1) start) at) fit u

pub unreached_is_not_shown_lem : UnreachedIsNotShown
unreached_is_not_shown_lem g has p (word w) start kept shows = absurd shows.fits
unreached_is_not_shown_lem g has p (made q kids) start kept shows = root_reached g (λ n. has n ≡ true) p q kids start kept shows.fits.0 shows.fits.1 shows.uses
