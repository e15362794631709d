-- Spread items of a grammar that is in range, and members of components by the components' numbers.
use Rattle.std.proofs.Common.{◌≡◌, ℕ, ◌+◌, ◌<◌, List, length, get_or, refl, sym, ap, subst, ◌∙◌, arith, Some}
use Rattle.std.proofs.lemmas.Option.{slice_get-get_or}
use Rattle.xs_gram.specs.declared.parts.GItem.{GItem}
use Rattle.xs_gram.specs.declared.parts.GItem.TheVariants.{Fixed, Term, Non, Skip}
use Rattle.xs_regex.specs.declared.position.Position.{Position}
use Rattle.xs_gram.specs.Grammar.{Grammar, rule_of, term_of, skip_of}
use Rattle.xs_gram.specs.Building.{NamesAreThere}
use Rattle.xs_gram.specs.Fences.{spread, OuterAt}
use Rattle.xs_gram.specs.Loose.{Uses, AreOne, IsMember, AreComponents}
use Rattle.xs_gram.specs.Sound.{IsInRange, IsBuilt}
use Rattle.xs_gram.proofs.Spreading.{spread_names}
use Rattle.xs_check_laws.specs.Weights.{ItemWeighs, fixed_weighs, term_weighs, skip_weighs, non_weighs}
use Rattle.xs_loose.specs.Components.{IsNonOf, IsRuleIn}
use Rattle.xs_loose.specs.Weighing.{AreWeights, AreWeightsBefore, HasWeight, IsUnder, IsOneOf}

-- what a spread item names is there
pub item_there : (g : Grammar) → IsInRange g → (p k : ℕ) (read : List GItem) (i : GItem) → read ≡ spread g p → k < length (spread g p) → i ≡ get_or read k i → NamesAreThere g i
item_there g range p k read i e low is = spread_names g range p k i (slice_get-get_or (spread g p) k i low ∙ ap (λ (x : GItem). Some x) (sym (is ∙ ap (λ (xs : List GItem). get_or xs k i) e)))

-- no outer item of a rule is of a component after the rule's
pub outer_under : (g : Grammar) (comps : List ℕ) → IsInRange g → AreComponents g comps → (component p k : ℕ) (i : GItem) → IsRuleIn g comps component p → OuterAt g.fences (spread g p) k i → IsUnder comps component i
outer_under g comps range are component p k (Fixed f) of at = tt
outer_under g comps range are component p k (Term t s) of at = tt
outer_under g comps range are component p k (Non n s) of at =
    let uses : Uses g (rule_of g p).non n = record { rule = p; dot = k; slot = s; of = (of.0, refl); item = at } in
    omega (arith, are.falls (rule_of g p).non n (range.rules p of.0) uses, of.1)
outer_under g comps range are component p k (Skip j) of at = tt

module _ (g : Grammar) (comps : List ℕ) (are : AreComponents g comps) (component c : ℕ) (of : IsNonOf g comps component c) where
  pub one_there : (m : ℕ) → m < g.nons → get_or comps m 0 ≡ component → AreOne g c m
  one_there m l e = (are.one c m of.0 l).0 (of.1 ∙ sym e)

  pub one_only : (m : ℕ) → m < g.nons → AreOne g c m → get_or comps m 0 ≡ component
  one_only m l one = sym ((are.one c m of.0 l).1 one) ∙ of.1

  pub is_member : (i : GItem) (n : ℕ) → NamesAreThere g i → IsOneOf comps component i n → IsMember g c i
  is_member (Fixed f) n there h = absurd h
  is_member (Term t s) n there h = absurd h
  is_member (Non m s) n there h = one_there m there h.1
  is_member (Skip k) n there h = absurd h

  pub no_member : (i : GItem) → NamesAreThere g i → ((n : ℕ) → IsOneOf comps component i n → ⊥) → IsMember g c i → ⊥
  no_member (Fixed f) there none h = h
  no_member (Term t s) there none h = h
  no_member (Non m s) there none h = none m (refl, one_only m there h)
  no_member (Skip k) there none h = h

-- an item of a lower component has its weight in the table
pub has_weight : (g : Grammar) (comps weights : List ℕ) (component : ℕ) (i : GItem) → AreWeightsBefore g comps component weights → NamesAreThere g i → IsUnder comps component i → ((n : ℕ) → IsOneOf comps component i n → ⊥) → HasWeight g weights i
has_weight g comps weights component (Fixed f) are there under none = tt
has_weight g comps weights component (Term t s) are there under none = tt
has_weight g comps weights component (Non m s) are there under none =
    let apart : get_or comps m 0 ≡ component → ⊥ = λ e. none m (refl, e) in
    are.each m there (omega arith)
has_weight g comps weights component (Skip k) are there under none = tt

-- each item has its weight in a table of all
pub weight_there : (g : Grammar) (weights : List ℕ) (i : GItem) → AreWeights g weights → NamesAreThere g i → HasWeight g weights i
weight_there g weights (Fixed f) are there = tt
weight_there g weights (Term t s) are there = tt
weight_there g weights (Non m s) are there = are.each m there
weight_there g weights (Skip k) are there = tt

-- what items weigh, by what is read of them
pub fixed_weight : (g : Grammar) (i : GItem) (f : List ℕ) (n : ℕ) → i ≡ Fixed f → n ≡ length f → ItemWeighs g i n
fixed_weight g i f n e h = rw e (fixed_weighs h)

pub term_weight : (g : Grammar) (i : GItem) (t s n : ℕ) (a : Position) → IsBuilt g → i ≡ Term t s → NamesAreThere g i → a ≡ (term_of g t).automaton → n ≡ length a.classes → ItemWeighs g i (n + 1)
term_weight g i t s n a built e there is h =
    let low : t < length g.terms = subst (NamesAreThere g) e there in
    let positions = (built.automata.terms t low).positions in
    rw e (term_weighs {t = t} {s = s} {w = n + 1} (omega (arith, positions, h, ap (λ (x : Position). length x.classes) is)))

pub skip_weight : (g : Grammar) (i : GItem) (k n : ℕ) (a : Position) → IsBuilt g → i ≡ Skip k → NamesAreThere g i → a ≡ (skip_of g k).automaton → n ≡ length a.classes → ItemWeighs g i (n + 1)
skip_weight g i k n a built e there is h =
    let low : k < length g.skips = subst (NamesAreThere g) e there in
    let positions = (built.automata.skips k low).positions in
    rw e (skip_weighs {k = k} {w = n + 1} (omega (arith, positions, h, ap (λ (x : Position). length x.classes) is)))

pub non_weight : (g : Grammar) (i : GItem) (weights : List ℕ) (n s : ℕ) → i ≡ Non n s → HasWeight g weights i → ItemWeighs g i (get_or weights n 0)
non_weight g i weights n s e h = rw e (non_weighs (subst (HasWeight g weights) e h))

pub one_low : (g : Grammar) (comps : List ℕ) (component : ℕ) (i : GItem) (n : ℕ) → NamesAreThere g i → IsOneOf comps component i n → n < g.nons
one_low g comps component (Fixed f) n there h = absurd h
one_low g comps component (Term t s) n there h = absurd h
one_low g comps component (Non m s) n there h = subst (λ (k : ℕ). k < g.nons) h.0 there
one_low g comps component (Skip k) n there h = absurd h
