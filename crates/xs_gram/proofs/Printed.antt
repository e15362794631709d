-- A printed tree has that tree: from a tree that fits, a derivation with each ignorable in its normal spelling.
use Rattle.std.proofs.Common.{◌≡◌, ℕ, suc, zero, ◌+◌, ◌<◌, List, [], ◌∷◌, ◌++◌, length, refl, sym, ◌∙◌, ap, subst, arith, Some, None}
use Rattle.std.specs.declared.option.Option.{Option}
use Rattle.std.proofs.lemmas.Bool.Decides.{nat_tests}
use Rattle.xs_gram.specs.declared.parts.GItem.{GItem}
use Rattle.xs_gram.specs.declared.parts.GItem.TheVariants.{Fixed, Term, Non, Skip}
use Rattle.xs_gram.specs.Grammar.{Grammar, items, slots, IsRuleOf, IsTermWord, IsSkipWord, normal_word}
use Rattle.xs_gram.specs.Derivations.{Parts, done, fixed, leaf, skip, sub, FitsItems, parts_yield}
use Rattle.xs_gram.specs.Common.{Common, word, made, Kids, no_kid, kid, lookup, in_order, children, named, spelling, word_at, print, print_kids, Kind, of_term, of_non, kinds, KidsFit, KidFits}
use Rattle.xs_gram.specs.Laws.{Every, IsDistinct, HasNumberedSlots, HasNormals, PrintedHasTree}
use Rattle.xs_gram.proofs.Lookup.{AllOf, keys, length-keys, by_keys, each_found}

-- what a child puts in the place of its item: a word, or a rule with its parts
record Filling : Type 0 where
  text : List ℕ
  rule : ℕ
  parts : Parts

abbrev filling_at : List Filling → ℕ → Filling
filling_at [] k = record { text = []; rule = 0; parts = done }
filling_at (f ∷ fs) zero = f
filling_at (f ∷ fs) (suc k) = filling_at fs k

abbrev fill : Grammar → List GItem → (ℕ → Filling) → Parts
fill g [] at = done
fill g (Fixed f ∷ is) at = fixed f (fill g is at)
fill g (Term t s ∷ is) at = leaf (at s).text (fill g is at)
fill g (Skip k ∷ is) at = skip (normal_word g k) (fill g is at)
fill g (Non n s ∷ is) at = sub (at s).rule (at s).parts (fill g is at)

abbrev mutual
  filling : Grammar → Common → Filling
  filling g (word w) = record { text = w; rule = 0; parts = done }
  filling g (made p kids) = record { text = []; rule = p; parts = fill g (items g p) (filling_at (fillings g kids)) }

  fillings : Grammar → Kids → List Filling
  fillings g no_kid = []
  fillings g (kid t kids) = filling g t ∷ fillings g kids

abbrev kid_at : Kids → ℕ → Common
kid_at no_kid k = word []
kid_at (kid t kids) zero = t
kid_at (kid t kids) (suc k) = kid_at kids k

-- the number of children
abbrev pub kids_long : Kids → ℕ
kids_long no_kid = 0
kids_long (kid t kids) = suc (kids_long kids)

-- the child is right for its slot's kind: its filling fits, yields its print and has its tree
abbrev Good : Grammar → Option Kind → Common → Type 0
Good g None c = ⊥
Good g (Some (of_term t)) c = IsTermWord g t (filling g c).text × (c ≡ word (filling g c).text)
Good g (Some (of_non n)) c =
    IsRuleOf g n (filling g c).rule × FitsItems g (items g (filling g c).rule) (filling g c).parts
    × (made (filling g c).rule (children (named g (items g (filling g c).rule) (filling g c).parts)) ≡ c)
    × (parts_yield (filling g c).parts ≡ print g c)

abbrev AllGood : Grammar → List GItem → ℕ → Kids → Type 0
AllGood g is slot no_kid = Unit {0}
AllGood g is slot (kid t kids) = Good g (lookup slot (kinds is)) t × AllGood g is (slot + 1) kids

good_at : (g : Grammar) (is : List GItem) (slot : ℕ) (kids : Kids) → AllGood g is slot kids → (k : ℕ) → k < kids_long kids → Good g (lookup (slot + k) (kinds is)) (kid_at kids k)
good_at g is slot no_kid all k lt = absurd (omega arith)
good_at g is slot (kid t kids) all zero lt = subst (λ m. Good g (lookup m (kinds is)) t) (omega arith) all.0
good_at g is slot (kid t kids) all (suc k) lt = subst (λ m. Good g (lookup m (kinds is)) (kid_at kids k)) (omega arith) (good_at g is (slot + 1) kids all.1 k (omega arith))

-- the fillings and the words by the children
filling_is : (g : Grammar) (kids : Kids) (k : ℕ) → k < kids_long kids → filling_at (fillings g kids) k ≡ filling g (kid_at kids k)
filling_is g no_kid k lt = absurd (omega arith)
filling_is g (kid t kids) zero lt = refl
filling_is g (kid t kids) (suc k) lt = filling_is g kids k (omega arith)

word_is : (g : Grammar) (kids : Kids) (k : ℕ) → word_at (print_kids g kids) k ≡ print g (kid_at kids k)
word_is g no_kid k = refl
word_is g (kid t kids) zero = refl
word_is g (kid t kids) (suc k) = word_is g kids k

pub counted : (g : Grammar) (is : List GItem) (slot : ℕ) (kids : Kids) → KidsFit g is slot kids → slot + kids_long kids ≡ length (kinds is)
counted g is slot no_kid fit = omega (arith, fit)
counted g is slot (kid t kids) fit = omega (arith, counted g is (slot + 1) kids fit.1)

pub keys-kinds : (is : List GItem) → keys (kinds is) ≡ slots is
keys-kinds [] = refl
keys-kinds (Fixed f ∷ is) = keys-kinds is
keys-kinds (Term t s ∷ is) = ap (λ (l : List ℕ). s ∷ l) (keys-kinds is)
keys-kinds (Non n s ∷ is) = ap (λ (l : List ℕ). s ∷ l) (keys-kinds is)
keys-kinds (Skip k ∷ is) = keys-kinds is

pub kinds_long : (is : List GItem) → length (kinds is) ≡ length (slots is)
kinds_long [] = refl
kinds_long (Fixed f ∷ is) = kinds_long is
kinds_long (Term t s ∷ is) = ap suc (kinds_long is)
kinds_long (Non n s ∷ is) = ap suc (kinds_long is)
kinds_long (Skip k ∷ is) = kinds_long is

-- the children are good for the kinds of these slots, and stand where they are looked up
abbrev Holds : Grammar → Kids → ℕ × Kind → Type 0
Holds g kids e = Good g (Some e.1) (kid_at kids e.0) × (filling_at (fillings g kids) e.0 ≡ filling g (kid_at kids e.0))

each_good : (g : Grammar) (is : List GItem) (kids : Kids) → AllGood g is 0 kids → (xs : List (ℕ × Kind)) → AllOf (λ e. e.0 < kids_long kids) xs → AllOf (λ e. lookup e.0 (kinds is) ≡ Some e.1) xs → AllOf (Holds g kids) xs
each_good g is kids all [] below are = tt
each_good g is kids all (x ∷ xs) below are =
    ((subst (λ kind. Good g kind (kid_at kids x.0)) are.0 (subst (λ m. Good g (lookup m (kinds is)) (kid_at kids x.0)) (omega arith) (good_at g is 0 kids all x.0 below.0)), filling_is g kids x.0 below.0), each_good g is kids all xs below.1 are.1)

abbrev AllNormal : Grammar → List GItem → Type 0
AllNormal g [] = Unit {0}
AllNormal g (Fixed f ∷ is) = AllNormal g is
AllNormal g (Term t s ∷ is) = AllNormal g is
AllNormal g (Non n s ∷ is) = AllNormal g is
AllNormal g (Skip k ∷ is) = IsSkipWord g k (normal_word g k) × AllNormal g is

fits_filled : (g : Grammar) (kids : Kids) (is : List GItem) → AllNormal g is → AllOf (Holds g kids) (kinds is) → FitsItems g is (fill g is (filling_at (fillings g kids)))
fits_filled g kids [] normals holds = tt
fits_filled g kids (Fixed f ∷ is) normals holds = (refl, fits_filled g kids is normals holds)
fits_filled g kids (Term t s ∷ is) normals holds = (subst (λ f. IsTermWord g t f.text) (sym holds.0.1) holds.0.0.0, fits_filled g kids is normals holds.1)
fits_filled g kids (Skip k ∷ is) normals holds = (normals.0, fits_filled g kids is normals.1 holds)
fits_filled g kids (Non n s ∷ is) normals holds =
    let at : Filling = filling_at (fillings g kids) s in
    (subst (λ f. IsRuleOf g n f.rule) (sym holds.0.1) holds.0.0.0, subst (λ f. FitsItems g (items g f.rule) f.parts) (sym holds.0.1) holds.0.0.1, fits_filled g kids is normals holds.1)

yields_filled : (g : Grammar) (kids : Kids) (is : List GItem) → AllOf (Holds g kids) (kinds is) → parts_yield (fill g is (filling_at (fillings g kids))) ≡ spelling g is (word_at (print_kids g kids))
yields_filled g kids [] holds = refl
yields_filled g kids (Fixed f ∷ is) holds = ap (λ l. f ++ l) (yields_filled g kids is holds)
yields_filled g kids (Term t s ∷ is) holds =
    rw (holds.0.1, word_is g kids s, yields_filled g kids is holds.1) (ap (λ c. print g c ++ spelling g is (word_at (print_kids g kids))) (sym holds.0.0.1))
yields_filled g kids (Skip k ∷ is) holds = ap (λ l. normal_word g k ++ l) (yields_filled g kids is holds)
yields_filled g kids (Non n s ∷ is) holds =
    rw (holds.0.1, word_is g kids s, yields_filled g kids is holds.1) (ap (λ u. u ++ spelling g is (word_at (print_kids g kids))) holds.0.0.3)

-- the children under the slots of the items
abbrev entries : Kids → List (ℕ × Kind) → List (ℕ × Common)
entries kids [] = []
entries kids (e ∷ es) = (e.0, kid_at kids e.0) ∷ entries kids es

named_filled : (g : Grammar) (kids : Kids) (is : List GItem) → AllOf (Holds g kids) (kinds is) → named g is (fill g is (filling_at (fillings g kids))) ≡ entries kids (kinds is)
named_filled g kids [] holds = refl
named_filled g kids (Fixed f ∷ is) holds = named_filled g kids is holds
named_filled g kids (Term t s ∷ is) holds =
    rw (holds.0.1, named_filled g kids is holds.1) (ap (λ (c : Common). (s, c) ∷ entries kids (kinds is)) (sym holds.0.0.1))
named_filled g kids (Skip k ∷ is) holds = named_filled g kids is holds
named_filled g kids (Non n s ∷ is) holds =
    rw (holds.0.1, named_filled g kids is holds.1) (ap (λ (c : Common). (s, c) ∷ entries kids (kinds is)) holds.0.0.2)

length-entries : (kids : Kids) (es : List (ℕ × Kind)) → length (entries kids es) ≡ length es
length-entries kids [] = refl
length-entries kids (e ∷ es) = ap suc (length-entries kids es)

-- where a kind is found under a number, so is the child
child_found : (kids : Kids) (es : List (ℕ × Kind)) (k : ℕ) (kind : Kind) → lookup k es ≡ Some kind → lookup k (entries kids es) ≡ Some (kid_at kids k)
child_found kids [] k kind is = cc
child_found kids (e ∷ es) k kind is = here (child_found kids es k kind)
  where
    here : (lookup k es ≡ Some kind → lookup k (entries kids es) ≡ Some (kid_at kids k)) → lookup k (entries kids (e ∷ es)) ≡ Some (kid_at kids k)
    here rest = grind (arith, nat_tests)

good_is_found : (g : Grammar) (kids : Kids) (es : List (ℕ × Kind)) (k : ℕ) (o : Option Kind) → lookup k es ≡ o → Good g o (kid_at kids k) → lookup k (entries kids es) ≡ Some (kid_at kids k)
good_is_found g kids es k None is good = absurd good
good_is_found g kids es k (Some kind) is good = child_found kids es k kind is

-- the children from a slot on, read in order
ordered : (es : List (ℕ × Common)) (kids : Kids) (slot : ℕ) → ((k : ℕ) → k < kids_long kids → lookup (slot + k) es ≡ Some (kid_at kids k)) → in_order (kids_long kids) slot es ≡ kids
ordered es no_kid slot all = refl
ordered es (kid t kids) slot all =
    let first : lookup slot es ≡ Some t = subst (λ m. lookup m es ≡ Some t) (omega arith) (all 0 (omega arith)) in
    let rest : (k : ℕ) → k < kids_long kids → lookup (slot + 1 + k) es ≡ Some (kid_at kids k) = λ k lt. subst (λ m. lookup m es ≡ Some (kid_at kids k)) (omega arith) (all (suc k) (omega arith)) in
    rw (first, ordered es kids (slot + 1) rest) refl

children_are : (g : Grammar) (is : List GItem) (kids : Kids) → AllGood g is 0 kids → kids_long kids ≡ length (kinds is) → children (entries kids (kinds is)) ≡ kids
children_are g is kids all long =
    ap (λ n. in_order n 0 (entries kids (kinds is))) (length-entries kids (kinds is) ∙ sym long)
    ∙ ordered (entries kids (kinds is)) kids 0 (λ k lt. subst (λ m. lookup m (entries kids (kinds is)) ≡ Some (kid_at kids k)) (omega arith) (good_is_found g kids (kinds is) k (lookup k (kinds is)) refl (subst (λ m. Good g (lookup m (kinds is)) (kid_at kids k)) (omega arith) (good_at g is 0 kids all k lt))))

-- the derivation of a node whose children are good
record IsFilled (g : Grammar) (p : ℕ) (kids : Kids) (ps : Parts) : Type 0 where
  fits : FitsItems g (items g p) ps
  tree : made p (children (named g (items g p) ps)) ≡ made p kids
  yields : parts_yield ps ≡ print g (made p kids)

all_normal : (g : Grammar) → HasNormals g → (is : List GItem) → AllNormal g is
all_normal g normals [] = tt
all_normal g normals (Fixed f ∷ is) = all_normal g normals is
all_normal g normals (Term t s ∷ is) = all_normal g normals is
all_normal g normals (Non n s ∷ is) = all_normal g normals is
all_normal g normals (Skip k ∷ is) = (normals k, all_normal g normals is)

filled : (g : Grammar) → HasNumberedSlots g → HasNormals g → (p : ℕ) (kids : Kids) → AllGood g (items g p) 0 kids → kids_long kids ≡ length (kinds (items g p)) → IsFilled g p kids (fill g (items g p) (filling_at (fillings g kids)))
filled g numbered normals p kids all long =
    let is : List GItem = items g p in
    let are : keys (kinds is) ≡ slots is = keys-kinds is in
    let number : length (slots is) ≡ kids_long kids = ap length (sym are) ∙ length-keys (kinds is) ∙ sym long in
    let below : AllOf (λ e. e.0 < kids_long kids) (kinds is) = by_keys (λ n. n < kids_long kids) (kinds is) (subst (λ (l : List ℕ). Every (λ n. n < kids_long kids) l) (sym are) (subst (λ (m : ℕ). Every (λ n. n < m) (slots is)) number (numbered p).below)) in
    let found : AllOf (λ e. lookup e.0 (kinds is) ≡ Some e.1) (kinds is) = each_found (kinds is) (subst IsDistinct (sym are) (numbered p).once) in
    let holds : AllOf (Holds g kids) (kinds is) = each_good g is kids all (kinds is) below found in
    record {
      fits = fits_filled g kids is (all_normal g normals is) holds;
      tree = ap (λ ks. made p ks) (ap children (named_filled g kids is holds) ∙ children_are g is kids all long);
      yields = yields_filled g kids is holds;
    }

mutual
  good : (g : Grammar) → HasNumberedSlots g → HasNormals g → (o : Option Kind) (c : Common) → KidFits g o c → Good g o c
  good g numbered normals (Some (of_term t)) (word w) fit = (fit, refl)
  good g numbered normals (Some (of_non n)) (made q kids) fit =
      let inner = filled g numbered normals q kids (all_good g numbered normals (items g q) 0 kids fit.1) (omega (arith, counted g (items g q) 0 kids fit.1)) in
      (fit.0, inner.fits, inner.tree, inner.yields)
  good g numbered normals (Some (of_term t)) (made q kids) fit = absurd fit
  good g numbered normals (Some (of_non n)) (word w) fit = absurd fit
  good g numbered normals None c fit = absurd fit

  all_good : (g : Grammar) → HasNumberedSlots g → HasNormals g → (is : List GItem) (slot : ℕ) (kids : Kids) → KidsFit g is slot kids → AllGood g is slot kids
  all_good g numbered normals is slot no_kid fit = tt
  all_good g numbered normals is slot (kid t kids) fit = (good g numbered normals (lookup slot (kinds is)) t fit.0, all_good g numbered normals is (slot + 1) kids fit.1)

pub printed_has_tree_lem : PrintedHasTree
printed_has_tree_lem g (word w) numbered normals fit = absurd fit
printed_has_tree_lem g (made p kids) numbered normals fit =
    let inner = filled g numbered normals p kids (all_good g numbered normals (items g p) 0 kids fit.1) (omega (arith, counted g (items g p) 0 kids fit.1)) in
    (record { rule = p; parts = fill g (items g p) (filling_at (fillings g kids)) }, ((fit.0, inner.fits), inner.yields), inner.tree)
