-- Sizes add up.
use Rattle.std.proofs.Common.{◌≡◌, ℕ, suc, ◌+◌, List, [], ◌∷◌, length, length-append, refl, ◌∙◌, ap, arith, Some, None}
use Rattle.std.specs.declared.option.Option.{Option}
use Rattle.xs_gram.proofs.Printed.{kids_long, kinds_long}
use Rattle.xs_gram.specs.declared.parts.GItem.{GItem}
use Rattle.xs_gram.specs.declared.parts.GItem.TheVariants.{Fixed, Term, Non, Skip}
use Rattle.xs_gram.specs.Grammar.{Grammar, items, slots, normal_word}
use Rattle.xs_gram.specs.Common.{Kids, Kind, word, made, no_kid, kid, of_term, of_non, lookup, kinds, spelling, word_at, print, print_kids, KidsFit, KidFits}
use Rattle.xs_gram.specs.Laws.{HasNumberedSlots}
use Rattle.xs_cover.specs.Sizes.{size, fixed_length, weight, kids_weight}
use Rattle.xs_cover.specs.Laws.{SizesAdd}
use Rattle.xs_cover.proofs.Sums.{sum_of, sum_upto, sum_numbered}

-- the number of symbols of words
abbrev words_length : List (List ℕ) → ℕ
words_length [] = 0
words_length (w ∷ ws) = length w + words_length ws

-- as many children fit as there are slots
pub fit_long : (g : Grammar) (is : List GItem) (slot : ℕ) (kids : Kids) → KidsFit g is slot kids → slot + kids_long kids ≡ length (slots is)
fit_long g is slot no_kid fit = omega (arith, fit, kinds_long is)
fit_long g is slot (kid t kids) fit = omega (arith, fit_long g is (slot + 1) kids fit.1)

-- the children of a child that fits fit its production
pub inner_fit : (g : Grammar) (kind : Option Kind) (p : ℕ) (kids : Kids) → KidFits g kind (made p kids) → KidsFit g (items g p) 0 kids
inner_fit g None p kids fit = absurd fit
inner_fit g (Some (of_term t)) p kids fit = absurd fit
inner_fit g (Some (of_non n)) p kids fit = fit.1

printed_long : (g : Grammar) (kids : Kids) → length (print_kids g kids) ≡ kids_long kids
printed_long g no_kid = refl
printed_long g (kid t kids) = ap suc (printed_long g kids)

words_sum : (ws : List (List ℕ)) → sum_upto (λ k. length (word_at ws k)) (length ws) ≡ words_length ws
words_sum [] = refl
words_sum (w ∷ ws) = ap (λ n. length w + n) (words_sum ws)

-- what items spell has their fixed words and the words of their slots
spelt_long : (g : Grammar) (is : List GItem) (at : ℕ → List ℕ) → length (spelling g is at) ≡ fixed_length g is + sum_of (λ s. length (at s)) (slots is)
spelt_long g [] at = refl
spelt_long g (Fixed f ∷ is) at = omega (arith, length-append f (spelling g is at), spelt_long g is at)
spelt_long g (Term t s ∷ is) at = omega (arith, length-append (at s) (spelling g is at), spelt_long g is at)
spelt_long g (Non n s ∷ is) at = omega (arith, length-append (at s) (spelling g is at), spelt_long g is at)
spelt_long g (Skip k ∷ is) at = omega (arith, length-append (normal_word g k) (spelling g is at), spelt_long g is at)

side_adds : (g : Grammar) (p : ℕ) (kids : Kids) → HasNumberedSlots g → KidsFit g (items g p) 0 kids → length (print g (made p kids)) ≡ fixed_length g (items g p) + words_length (print_kids g kids)
side_adds g p kids numbered fit =
    let ws = print_kids g kids in
    let is = items g p in
    let f = λ (k : ℕ). length (word_at ws k) in
    let long : length (slots is) ≡ length ws = omega (arith, fit_long g is 0 kids fit, printed_long g kids) in
    let sum : sum_of f (slots is) ≡ words_length ws = sum_numbered f (slots is) (numbered p) ∙ ap (λ n. sum_upto f n) long ∙ words_sum ws in
    spelt_long g is (word_at ws) ∙ ap (λ n. fixed_length g is + n) sum

node_adds : (g h : Grammar) (p : ℕ) (kids : Kids) → HasNumberedSlots g → HasNumberedSlots h → KidsFit g (items g p) 0 kids → KidsFit h (items h p) 0 kids → words_length (print_kids g kids) + words_length (print_kids h kids) ≡ kids_weight g h kids → size g h (made p kids) ≡ weight g h (made p kids)
node_adds g h p kids ng nh fg fh inner = omega (arith, side_adds g p kids ng fg, side_adds h p kids nh fh, inner)

kids_add : (g h : Grammar) (is js : List GItem) (slot : ℕ) (kids : Kids) → HasNumberedSlots g → HasNumberedSlots h → KidsFit g is slot kids → KidsFit h js slot kids → words_length (print_kids g kids) + words_length (print_kids h kids) ≡ kids_weight g h kids
kids_add g h is js slot no_kid ng nh fg fh = refl
kids_add g h is js slot (kid (word w) kids) ng nh fg fh = omega (arith, kids_add g h is js (slot + 1) kids ng nh fg.1 fh.1)
kids_add g h is js slot (kid (made p inner) kids) ng nh fg fh =
    let fits_g = inner_fit g (lookup slot (kinds is)) p inner fg.0 in
    let fits_h = inner_fit h (lookup slot (kinds js)) p inner fh.0 in
    let node = node_adds g h p inner ng nh fits_g fits_h (kids_add g h (items g p) (items h p) 0 inner ng nh fits_g fits_h) in
    omega (arith, node, kids_add g h is js (slot + 1) kids ng nh fg.1 fh.1)

pub sizes_add_lem : SizesAdd
sizes_add_lem g h n m (word w) ng nh fg fh = refl
sizes_add_lem g h n m (made p kids) ng nh fg fh = node_adds g h p kids ng nh fg.1 fh.1 (kids_add g h (items g p) (items h p) 0 kids ng nh fg.1 fh.1)
