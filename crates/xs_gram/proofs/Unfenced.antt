-- Without fences each stretch is level, and each regex avoids them.
use Rattle.std.proofs.Common.{ℕ, List, [], ◌∷◌, refl, arith}
use Rattle.xs_regex.specs.declared.regex.Regex.{Regex}
use Rattle.xs_regex.specs.declared.regex.Regex.TheVariants as R
use Rattle.xs_gram.specs.declared.parts.GItem.{GItem}
use Rattle.xs_gram.specs.declared.parts.GItem.TheVariants.{Fixed, Term, Non, Skip}
use Rattle.xs_gram.specs.Fences.{IsFence, IsPlain, IsLevel, level_none, level_then, AvoidsFences}

pub no_fence : {l r : ℕ} → IsFence [] l r → ⊥
no_fence f = let h = f.is in omega (arith, h.1)

pub plain_unfenced : (i : GItem) → IsPlain [] i
plain_unfenced (Fixed f) = λ s h. refl
plain_unfenced (Term t s) = tt
plain_unfenced (Non n s) = tt
plain_unfenced (Skip k) = tt

pub level_unfenced : (is : List GItem) → IsLevel [] is
level_unfenced [] = level_none
level_unfenced (i ∷ is) = level_then (plain_unfenced i) (level_unfenced is)

pub avoids_unfenced : (r : Regex) → AvoidsFences [] r
avoids_unfenced R.Empty = tt
avoids_unfenced (R.Set class) = λ s h. refl
avoids_unfenced (R.Then' p a q b) = (avoids_unfenced a, avoids_unfenced b)
avoids_unfenced (R.Or' p a q b) = (avoids_unfenced a, avoids_unfenced b)
avoids_unfenced (R.Star' p a) = avoids_unfenced a
avoids_unfenced (R.Times' p a least most) = avoids_unfenced a
