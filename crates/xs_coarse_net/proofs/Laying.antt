-- What the loops over a word and over an automaton lay, one step further.
use Rattle.std.proofs.Common.{◌≡◌, ◌≢◌, ℕ, ◌+◌, ◌<◌, ◌≤◌, List, [], ◌∷◌, ◌++◌, length, take, get_or, slice_get, Some, refl, sym, ap, subst, ◌∙◌, inl, inr, arith}
use Rattle.std.specs.Prelude.{Bool, true, false, ◌||◌}
use Rattle.std.specs.List.{Contains}
use Rattle.std.proofs.lemmas.Bool.{cases_eq}
use Rattle.std.proofs.lemmas.List.{take_more, take_all}
use Rattle.std.proofs.lemmas.List.Elements.{Contains-append_left, Contains-append_right, Contains-get_or}
use Rattle.xs_class.proofs.Lists.{first_in}
use Rattle.xs_regex.specs.declared.position.Position.{Position}
use Rattle.xs_regex.specs.Automaton.{Leads}
use Rattle.xs_regex.specs.Matches.{Matches}
use Rattle.xs_gram.specs.declared.parts.GItem.TheVariants.{Fixed}
use Rattle.xs_gram.specs.Fences.{is_left, is_right, is_fence, IsFence, IsPlain}
use Rattle.xs_gram.proofs.Fences.{is_left_of, is_right_of}
use Rattle.xs_gram.specs.Sound.{IsAutomaton}
use Rattle.xs_regex.specs.declared.regex.Regex.{Regex}
use Rattle.xs_coarse.specs.Coarse.{Table, Net, HasArc}
use Rattle.xs_coarse_net.specs.Going.{LabelReads, Goes, goes_none, goes_read, Grows, Adds, AreLabelsOf, IsLaidIn}
use Rattle.xs_coarse_net.proofs.Going.{goes_on, goes_as, goes_grown, automaton_goes}
use Rattle.xs_coarse_net.proofs.Rows.{take_each, leads_at}

-- the arcs from a state to the first targets
abbrev RowArcs : Net → ℕ → List ℕ → List ℕ → ℕ → Type 0
RowArcs n from labels states k = HasArc n from (get_or labels k 0) (get_or states k 0)

pub row_more : (m n : Net) (from : ℕ) (labels states targets : List ℕ) (i : ℕ) → i < length targets → ((k : ℕ) → Contains (take i targets) k → RowArcs m from labels states k) → Adds m n from (get_or labels (get_or targets i 0) 0) (get_or states (get_or targets i 0) 0) → (k : ℕ) → Contains (take (i + 1) targets) k → RowArcs n from labels states k
row_more m n from labels states targets i low was adds = take_each (RowArcs n from labels states) targets i 0 low (λ k h. adds.grows.kept _ (was k h)) adds.there

-- the arcs from the first positions to those that follow them
pub follows_more : (m n : Net) (p : Position) (labels states : List ℕ) (j : ℕ) (row : List ℕ) → slice_get p.follow j ≡ Some row → ((i k : ℕ) → i < j → Leads p i k → RowArcs m (get_or states i 0) labels states k) → Grows m n → ((k : ℕ) → Contains row k → RowArcs n (get_or states j 0) labels states k) → (i k : ℕ) → i < j + 1 → Leads p i k → RowArcs n (get_or states i 0) labels states k
follows_more m n p labels states j row at was grows here i k low leads = elim (cases_eq i j) [
  | inl e ↦ subst (λ (x : ℕ). RowArcs n (get_or states x 0) labels states k) (sym e) (here k (leads_at p j k row at (subst (λ (x : ℕ). Leads p x k) e leads)))
  | inr ne ↦ grows.kept _ (was i k (omega (arith, low)) leads)
]

-- the arcs from the first last positions
abbrev LastArc : Net → List ℕ → ℕ → ℕ → Type 0
LastArc n states to k = get_or states k 0 ≢ to → HasArc n (get_or states k 0) 0 to

pub lasts_more : (m n : Net) (states lasts : List ℕ) (to i : ℕ) → i < length lasts → ((k : ℕ) → Contains (take i lasts) k → LastArc m states to k) → Grows m n → (get_or states (get_or lasts i 0) 0 ≢ to → HasArc n (get_or states (get_or lasts i 0) 0) 0 to) → (k : ℕ) → Contains (take (i + 1) lasts) k → LastArc n states to k
lasts_more m n states lasts to i low was grows here = take_each (LastArc n states to) lasts i 0 low (λ k h ne. grows.kept _ (was k h ne)) here

-- one more symbol of a word
pub symbol_more : (fs : List (ℕ × ℕ)) (t : Table) (m n : Net) (w : List ℕ) (i from at next symbol : ℕ) → i < length w → symbol ≡ get_or w i 0 → (IsPlain fs (Fixed (take i w)) → Goes t m from (take i w) at) → Grows m n → (is_fence fs symbol ≡ false → (label : ℕ) × HasArc n at label next × LabelReads t label symbol) → IsPlain fs (Fixed (take (i + 1) w)) → Goes t n from (take (i + 1) w) next
symbol_more fs t m n w i from at next symbol low is was grows here plain =
    let more : take (i + 1) w ≡ take i w ++ symbol ∷ [] = take_more w i 0 low ∙ ap (λ (s : ℕ). take i w ++ s ∷ []) (sym is) in
    let front : IsPlain fs (Fixed (take i w)) = λ s h. plain s (subst (λ (l : List ℕ). Contains l s) (sym more) (Contains-append_left (take i w) (symbol ∷ []) s h)) in
    let arc = here (plain symbol (subst (λ (l : List ℕ). Contains l symbol) (sym more) (Contains-append_right (take i w) (symbol ∷ []) symbol (first_in symbol [])))) in
    goes_as refl (sym more) refl (goes_on (goes_grown grows (was front)) (goes_read arc.1 arc.2 goes_none))

-- all of a word
pub word_done : (fs : List (ℕ × ℕ)) (t : Table) (n : Net) (w : List ℕ) (i from at to : ℕ) → length w ≤ i → at ≡ to → (IsPlain fs (Fixed (take i w)) → Goes t n from (take i w) at) → IsPlain fs (Fixed w) → Goes t n from w to
word_done fs t n w i from at to end e was plain =
    let all : take i w ≡ w = take_all i w end in
    goes_as refl all e (was (subst (λ (l : List ℕ). IsPlain fs (Fixed l)) (sym all) plain))

-- the words of a regex go through its automaton
pub regex_goes : {t : Table} {n : Net} (regex : Regex) (p : Position) (labels states : List ℕ) (from to : ℕ) → IsAutomaton regex p → AreLabelsOf t p labels → IsLaidIn n p labels states from to → (w : List ℕ) → Matches regex w → Goes t n from w to
regex_goes regex p labels states from to is reads laid w word = automaton_goes reads laid w ((is.accepts w).0 word)

or_true : (b : Bool) → (b || true) ≡ true
or_true true = refl
or_true false = refl

-- a symbol that one of the fences has is a fence symbol
pub left_is_fence : (fs : List (ℕ × ℕ)) (i s : ℕ) (d : ℕ × ℕ) → i < length fs → (get_or fs i d).0 ≡ s → is_fence fs s ≡ true
left_is_fence fs i s d low e =
    let fence : IsFence fs (get_or fs i d).0 (get_or fs i d).1 = record { is = Contains-get_or fs i d low } in
    ap (λ (b : Bool). b || is_right fs s) (subst (λ (x : ℕ). is_left fs x ≡ true) e (is_left_of fence))

pub right_is_fence : (fs : List (ℕ × ℕ)) (i s : ℕ) (d : ℕ × ℕ) → i < length fs → (get_or fs i d).1 ≡ s → is_fence fs s ≡ true
right_is_fence fs i s d low e =
    let fence : IsFence fs (get_or fs i d).0 (get_or fs i d).1 = record { is = Contains-get_or fs i d low } in
    ap (λ (b : Bool). is_left fs s || b) (subst (λ (x : ℕ). is_right fs x ≡ true) e (is_right_of fence)) ∙ or_true (is_left fs s)
