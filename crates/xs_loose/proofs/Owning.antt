-- Members of a home's component, by the components' numbers.
use Rattle.std.proofs.Common.{◌≡◌, ℕ, ◌<◌, List, slice_get, sym, ap, Some}
use Rattle.xs_gram.specs.declared.parts.GItem.{GItem}
use Rattle.xs_gram.specs.declared.parts.GItem.TheVariants.{Fixed, Term, Non, Skip}
use Rattle.xs_gram.specs.Grammar.{Grammar}
use Rattle.xs_gram.specs.Building.{NamesAreThere}
use Rattle.xs_gram.specs.Loose.{AreOne, IsMember, AreComponents}
use Rattle.xs_loose.specs.declared.site.Home.{Home}
use Rattle.xs_loose.specs.Components.{IsNonOf}
use Rattle.xs_loose.specs.Weighing.{IsOneOf}
use Rattle.xs_loose.proofs.Items.{one_there, no_member}
use Rattle.xs_loose.proofs.Pushing.{element_is}

pub own_is : (comps : List ℕ) (component : ℕ) (i : GItem) (n : ℕ) → IsOneOf comps component i n → (slot : ℕ) × (i ≡ Non n slot)
own_is comps component (Fixed f) n h = absurd h
own_is comps component (Term t s) n h = absurd h
own_is comps component (Non m s) n h = (s, ap (λ (x : ℕ). Non x s) h.0)
own_is comps component (Skip k) n h = absurd h

module _ (g : Grammar) (comps : List ℕ) (are : AreComponents g comps) where
  non_of : (c component : ℕ) → c < g.nons → slice_get comps c ≡ Some component → IsNonOf g comps component c
  non_of c component low e = (low, sym (element_is comps c component 0 e))

  pub own_one : (c component : ℕ) (i : GItem) (n : ℕ) → c < g.nons → slice_get comps c ≡ Some component → NamesAreThere g i → IsOneOf comps component i n → AreOne g c n
  own_one c component (Fixed f) n low e there h = absurd h
  own_one c component (Term t s) n low e there h = absurd h
  own_one c component (Non m s) n low e there h = rw h.0 at (one_there g comps are component c (non_of c component low e) m there h.1)
  own_one c component (Skip k) n low e there h = absurd h

  pub not_own : (h : Home) (component : ℕ) (i : GItem) → h.non < g.nons → slice_get comps h.non ≡ Some component → NamesAreThere g i → ((n : ℕ) → IsOneOf comps component i n → ⊥) → IsMember g h.non i → ⊥
  not_own h component i low e there none = no_member g comps are component h.non (non_of h.non component low e) i there none
