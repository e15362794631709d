-- In a sound grammar each terminal has a word, and each nonterminal a tree.
use Rattle.std.proofs.Common.{◌≡◌, inl, inr, ℕ, zero, suc, ◌+◌, ◌*◌, ◌<◌, ◌≤◌, List, [], ◌∷◌, ◌++◌, length, length-append, refl, sym, subst, ◌∙◌, ap, arith, Some, None, slice_get}
use Rattle.std.specs.declared.option.Option.{Option}
use Rattle.std.proofs.lemmas.Bool.Decides.{eqb_tells}
use Rattle.xs_regex.specs.declared.regex.Regex.{Regex}
use Rattle.xs_regex.specs.declared.regex.Regex.TheVariants.{Empty, Set, Then', Or', Star', Times'}
use Rattle.xs_regex.specs.Matches.{Matches, Each, AtMost, joined}
use Rattle.xs_regex.specs.Size.{size, copies, IsBounded, IsInOrder, HasMembers}
use Rattle.xs_gram.specs.declared.parts.GItem.{GItem}
use Rattle.xs_gram.specs.declared.parts.GItem.TheVariants.{Fixed, Term, Non, Skip}
use Rattle.xs_gram.specs.Grammar.{Grammar, term_of, items, IsTermWord}
use Rattle.xs_gram.specs.Derivations.{Parts, done, fixed, leaf, skip, sub, FitsItems}
use Rattle.xs_gram.specs.Common.{Common, Kids, Kind, word, made, of_term, of_non, lookup, kinds, TreeFits, KidsFit, KidFits}
use Rattle.xs_gram.specs.Laws.{Every, HasNumberedSlots}
use Rattle.xs_gram.specs.Sound.{IsInRange, IsSound}
use Rattle.xs_gram.proofs.Entries.{lookup_same, lookup_other}
use Rattle.xs_gram.proofs.Lookup.{AllOf, keys}
use Rattle.xs_cover.specs.Shortest.{HasShortWord}
use Rattle.xs_cover.proofs.Filling.{fill, fill_fits, kind_at}

-- that many times the word
abbrev times_of : ℕ → List ℕ → List (List ℕ)
times_of zero w = []
times_of (suc n) w = w ∷ times_of n w

times_long : (n : ℕ) (w : List ℕ) → length (times_of n w) ≡ n
times_long zero w = refl
times_long (suc n) w = ap suc (times_long n w)

times_each : (P : List ℕ → Type 0) (n : ℕ) (w : List ℕ) → P w → Each P (times_of n w)
times_each P zero w is = tt
times_each P (suc n) w is = (is, times_each P n w is)

joined_long : (n bound : ℕ) (w : List ℕ) → length w ≤ bound → length (joined (times_of n w)) ≤ n * bound
joined_long zero bound w h = omega arith
joined_long (suc n) bound w h = omega (arith, length-append w (joined (times_of n w)), joined_long n bound w h, suc_times n bound)
  where
    suc_times : (n b : ℕ) → suc n * b ≡ b + n * b
    suc_times n b = grind arith

more_times : (n m b : ℕ) → n ≤ m → n * b ≤ m * b
more_times zero m b h = omega arith
more_times (suc n) zero b h = absurd (omega (arith, h))
more_times (suc n) (suc m) b h = omega (arith, more_times n m b (omega (arith, h)), suc_times n b, suc_times m b)
  where
    suc_times : (n b : ℕ) → suc n * b ≡ b + n * b
    suc_times n b = grind arith

enough : (least : ℕ) (most : Option ℕ) → IsInOrder least most → least ≤ copies least most
enough least None order = omega arith
enough least (Some m) order = order

at_most : (least : ℕ) (most : Option ℕ) (n : ℕ) → n ≡ least → IsInOrder least most → AtMost n most
at_most least None n e order = tt
at_most least (Some m) n e order = omega (arith, e, order)

some_word : (r : Regex) → HasMembers r → IsBounded r → (w : List ℕ) × Matches r w × (length w ≤ size r)
some_word Empty members bounded = ([], refl, omega arith)
some_word (Set class) members bounded = (members.0 ∷ [], (members.0, members.1, refl), omega arith)
some_word (Then' p a q b) members bounded =
    let u = some_word a members.0 bounded.0 in
    let v = some_word b members.1 bounded.1 in
    (u.0 ++ v.0, (u.0, v.0, refl, u.1, v.1), omega (arith, length-append u.0 v.0, u.2, v.2))
some_word (Or' p a q b) members bounded =
    let u = some_word a members.0 bounded.0 in
    (u.0, inl u.1, omega (arith, u.2))
some_word (Star' p a) members bounded = ([], ([], refl, tt), omega arith)
some_word (Times' p a least most) members bounded =
    let u = some_word a members bounded.1 in
    let ws = times_of least u.0 in (
      joined ws,
      (ws, refl, times_each (λ v. Matches a v) least u.0 u.1, omega (arith, times_long least u.0), at_most least most (length ws) (times_long least u.0) bounded.0),
      omega (arith, joined_long least (size a) u.0 u.2, more_times least (copies least most) (size a) (enough least most bounded.0)),
    )

pub term_word : (g : Grammar) → IsSound g → (t : ℕ) → t < length g.terms → (w : List ℕ) × IsTermWord g t w × (length w ≤ 512)
term_word g sound t h =
    let bounded = sound.built.automata.terms_bounded t h in
    let found = some_word (term_of g t).regex (sound.term_members t h) bounded.1 in
    (found.0, found.1, omega (arith, found.2, bounded.0))

pub short_word : (g : Grammar) → IsSound g → (t : ℕ) → t < length g.terms → HasShortWord (term_of g t).automaton
short_word g sound t h =
    let found = term_word g sound t h in
    (found.0, ((sound.built.automata.terms t h).accepts found.0).0 found.1, found.2)

pub some_kind : (k l : Kind) → Some k ≡ Some l → k ≡ l
some_kind k l e = cc

pub no_kind : (k : Kind) → None ≡ Some k → ⊥
no_kind k e = cc

-- what is found is of each entry
found_of : (P : Kind → Type 0) (es : List (ℕ × Kind)) (s : ℕ) (kind : Kind) → AllOf (λ e. P e.1) es → lookup s es ≡ Some kind → P kind
found_of P [] s kind all e = absurd (no_kind kind e)
found_of P ((r, k) ∷ es) s kind all e = elim (eqb_tells s r) [
  | inl (one, same) ↦ subst P (some_kind k kind (sym (lookup_same r k es) ∙ ap (λ j. lookup j ((r, k) ∷ es)) (sym same) ∙ e)) all.0
  | inr (two, ne) ↦ found_of P es s kind all.1 (sym (lookup_other r s k es ne) ∙ e)
]

-- a slot under which something is found is a key
pub key_there : (P : ℕ → Type 0) (es : List (ℕ × Kind)) (s : ℕ) (kind : Kind) → Every P (keys es) → lookup s es ≡ Some kind → P s
key_there P [] s kind all e = absurd (no_kind kind e)
key_there P ((r, k) ∷ es) s kind all e = elim (eqb_tells s r) [
  | inl (one, same) ↦ subst P (sym same) all.0
  | inr (two, ne) ↦ key_there P es s kind all.1 (sym (lookup_other r s k es ne) ∙ e)
]

-- the terminal or the nonterminal is there
abbrev pub KindIn : Grammar → Kind → Type 0
KindIn g (of_term t) = t < length g.terms
KindIn g (of_non n) = n < g.nons

kinds_in : (g : Grammar) (is : List GItem) → ((n t s : ℕ) → slice_get is n ≡ Some (Term t s) → t < length g.terms) → ((n m s : ℕ) → slice_get is n ≡ Some (Non m s) → m < g.nons) → AllOf (λ e. KindIn g e.1) (kinds is)
kinds_in g [] terms nons = tt
kinds_in g (Fixed f ∷ is) terms nons = kinds_in g is (λ n t s e. terms (suc n) t s e) (λ n m s e. nons (suc n) m s e)
kinds_in g (Term t k ∷ is) terms nons = (terms 0 t k refl, kinds_in g is (λ n t s e. terms (suc n) t s e) (λ n m s e. nons (suc n) m s e))
kinds_in g (Non m k ∷ is) terms nons = (nons 0 m k refl, kinds_in g is (λ n t s e. terms (suc n) t s e) (λ n m s e. nons (suc n) m s e))
kinds_in g (Skip k ∷ is) terms nons = kinds_in g is (λ n t s e. terms (suc n) t s e) (λ n m s e. nons (suc n) m s e)

pub kind_in : (g : Grammar) → IsInRange g → (p s : ℕ) (kind : Kind) → lookup s (kinds (items g p)) ≡ Some kind → KindIn g kind
kind_in g range p s kind e = found_of (KindIn g) (kinds (items g p)) s kind (kinds_in g (items g p) (range.terms p) (range.nons p)) e

-- a tree for each kind that is asked for
pub choose : (P : Kind → Common → Type 0) (o : Option Kind) → ((kind : Kind) → o ≡ Some kind → (t : Common) × P kind t) → (t : Common) × ((kind : Kind) → o ≡ Some kind → P kind t)
choose P None all = (word [], λ kind e. absurd (no_kind kind e))
choose P (Some k) all = let here = all k refl in (here.0, λ kind e. subst (λ l. P l here.0) (some_kind k kind e) here.1)

-- a tree for each entry
abbrev Chosen : Grammar → List (ℕ × Kind) → Type 0
Chosen g es = AllOf (λ e. (t : Common) × KidFits g (Some e.1) t) es

kids_of : (g : Grammar) → HasNumberedSlots g → (q : ℕ) → Chosen g (kinds (items g q)) → (kids : Kids) × KidsFit g (items g q) 0 kids
kids_of g numbered q chosen =
    let es = kinds (items g q) in
    let pick = λ (s : ℕ). choose (λ kind t. KidFits g (Some kind) t) (lookup s es) (λ kind e. found_of (λ k. (t : Common) × KidFits g (Some k) t) es s kind chosen e) in
    let fits : (s : ℕ) → s < length es → KidFits g (lookup s es) (pick s).0 = λ s h. let k = kind_at (items g q) (numbered q) s h in subst (λ o. KidFits g o (pick s).0) (sym k.1) ((pick s).1 k.0 k.1) in
    (fill (λ s. (pick s).0) 0 (length es), fill_fits g (items g q) (λ s. (pick s).0) 0 (length es) (omega arith) fits)

chosen_of : (g : Grammar) → HasNumberedSlots g → (is : List GItem) (ps : Parts) → FitsItems g is ps → Chosen g (kinds is)
chosen_of g numbered [] done fit = tt
chosen_of g numbered (Fixed f ∷ is) (fixed u ps) fit = chosen_of g numbered is ps fit.1
chosen_of g numbered (Term t s ∷ is) (leaf u ps) fit = ((word u, fit.0), chosen_of g numbered is ps fit.1)
chosen_of g numbered (Skip k ∷ is) (skip u ps) fit = chosen_of g numbered is ps fit.1
chosen_of g numbered (Non n s ∷ is) (sub q qs ps) fit =
    let inner = kids_of g numbered q (chosen_of g numbered (items g q) qs fit.1) in
    ((made q inner.0, (fit.0, inner.1)), chosen_of g numbered is ps fit.2)
chosen_of g numbered is ps fit = absurd fit

pub some_tree : (g : Grammar) → IsSound g → (n : ℕ) → n < g.nons → (t : Common) × KidFits g (Some (of_non n)) t
some_tree g sound n h =
    let d = sound.productive n h in
    let inner = kids_of g sound.built.slots d.0.rule (chosen_of g sound.built.slots (items g d.0.rule) d.0.parts d.1.1) in
    (made d.0.rule inner.0, (d.1.0, inner.1))

-- a tree of a nonterminal as a child, and back
pub as_kid : (g : Grammar) (n : ℕ) (t : Common) → TreeFits g n t → KidFits g (Some (of_non n)) t
as_kid g n (word w) fits = absurd fits
as_kid g n (made p kids) fits = fits

pub as_tree : (g : Grammar) (n : ℕ) (t : Common) → KidFits g (Some (of_non n)) t → TreeFits g n t
as_tree g n (word w) fits = absurd fits
as_tree g n (made p kids) fits = fits
