-- What is shown of a production, by its least size and by a tree.
use Rattle.std.proofs.Common.{◌≡◌, ℕ, ◌+◌, ◌<◌, List, [], ◌∷◌, ◌++◌, length, Option, None, Some, get_or, slice_get, subst, sym, arith, inl, inr, ap, ◌∙◌, length-append}
use Rattle.std.proofs.lemmas.Bool.{cases_lt}
use Rattle.std.proofs.lemmas.List.{get_or_append_left}
use Rattle.std.proofs.lemmas.Option.{get_or_from_slice_get}
use Rattle.std.proofs.Math.Seq.{get_or-append_seam}
use Rattle.xs_gram.specs.Grammar.{Grammar}
use Rattle.xs_gram.specs.Common.{Common}
use Rattle.xs_pair.specs.Grammars.{Pair}
use Rattle.xs_cover.specs.declared.covers.Covers.{Covers}
use Rattle.xs_cover.specs.Kept.{AreCoversOf, sizes_of}
use Rattle.xs_cover.specs.Sizes.{size, IsLeast, IsLeastSize, IsLeastTree, IsReachable, IsTooLong}

-- the size that is kept is the least
pub size_least : (p : Pair) (covers : Covers) (rule : ℕ) (o : Option ℕ) → AreCoversOf p covers → rule < length p.text.rules → slice_get (sizes_of covers) rule ≡ Some o → IsLeastSize p.text p.xml rule o
size_least p covers rule o are there is = subst (λ (k : Option ℕ). IsLeastSize p.text p.xml rule k) (get_or_from_slice_get (sizes_of covers) rule o None is) (are.sizes rule there)

pub none_reaches : (g h : Grammar) (rule : ℕ) → IsLeastSize g h rule None → IsReachable g rule → ⊥
none_reaches g h rule none reachable = none reachable.0 reachable.1

-- where each tree that shows the production is too long, the least size says so
pub least_long : (g h : Grammar) (rule z : ℕ) → IsLeast g h rule z → IsTooLong g h rule → 4096 < z
least_long g h rule z least long = omega (arith, long least.attained.0 least.attained.1, least.attained.2)

-- a least tree is of the least size
pub least_size : (g h : Grammar) (rule z : ℕ) (t : Common) → IsLeast g h rule z → IsLeastTree g h rule t → z ≡ size g h t
least_size g h rule z t least tree = omega (arith, least.attained.2, least.least t tree.shows, tree.least least.attained.0 least.attained.1, tree.short)

-- what holds at each place of a list and of one more value holds at each place of the longer list
pub each_pushed : {X : Type 0} (P : ℕ → X → Type 0) (d : X) (n : ℕ) (old new : List X) (x : X) → length old ≡ n → ((k : ℕ) → k < n → P k (get_or old k d)) → P n x → new ≡ old ++ x ∷ [] → (k : ℕ) → k < n + 1 → P k (get_or new k d)
each_pushed P d n old new x counted each last is k less = subst (λ l. P k (get_or l k d)) (sym is) (elim (cases_lt k n) [
  | inl before ↦ subst (λ z. P k z) (sym (get_or_append_left old (x ∷ []) d k (omega (arith, counted, before)))) (each k before)
  | inr after ↦
      let here : k ≡ n = omega (arith, after, less) in
      let place : k ≡ length old = omega (arith, here, counted) in
      subst (λ j. P j (get_or (old ++ x ∷ []) j d)) (sym place) (subst (λ z. P (length old) z) (sym (get_or-append_seam old x [] d)) (subst (λ j. P j x) (sym counted) last))
])

-- a list and one more value have one place more
pub pushed_long : {X : Type 0} (n : ℕ) (old new : List X) (x : X) → length old ≡ n → new ≡ old ++ x ∷ [] → length new ≡ n + 1
pushed_long n old new x counted is = ap (λ l. length l) is ∙ omega (arith, counted, length-append old (x ∷ []))
