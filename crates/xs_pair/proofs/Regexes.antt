-- What is known of all regexes of one pattern: their classes have the same of some characters.
use Rattle.std.proofs.Common.{◌⊎◌, inl, inr, subst, ℕ, List, [], ◌∷◌, Bool}
use Rattle.std.specs.Prelude.{IsTrue, ◌↔◌}
use Rattle.xs_class.specs.Classes.{Has}
use Rattle.xs_regex.specs.declared.regex.Regex.{Regex}
use Rattle.xs_regex.specs.declared.regex.Regex.TheVariants.{Empty, Set, Then', Or', Star', Times'}
use Rattle.xs_regex.specs.Meaning.{IsPatternOf, Means}
use Rattle.xs_regex.specs.Pattern.{Tree, nothing, class, both, either, any, times}
use Rattle.xs_regex.proofs.Readings.{same_reading}
use Rattle.xs_pair.specs.Fences.{HasSomeOf, HasInside}
use Rattle.xs_pair.specs.Rules.{SomeOf}

some_weaker : (P Q : ℕ → Type 0) (cs : List ℕ) → ((c : ℕ) → P c → Q c) → SomeOf P cs → SomeOf Q cs
some_weaker P Q [] f some = absurd some
some_weaker P Q (c ∷ cs) f (inl h) = inl (f c h)
some_weaker P Q (c ∷ cs) f (inr h) = inr (some_weaker P Q cs f h)

either_way : {A B C D : Type 0} → (A → C) → (B → D) → A ⊎ B → C ⊎ D
either_way f g (inl a) = inl (f a)
either_way f g (inr b) = inr (g b)

-- regexes of one tree
means_some : (t : Tree) (cs : List ℕ) (r q : Regex) → Means t r → Means t q → HasSomeOf cs r → HasSomeOf cs q
means_some nothing cs Empty Empty h k m = m
means_some nothing cs Empty q h k m = absurd k
means_some nothing cs r q h k m = absurd h
means_some (class sort) cs (Set ranges) (Set others) h k m = some_weaker (Has ranges) (Has others) cs (λ c has. (k.1 c).1 ((h.1 c).0 has)) m
means_some (class sort) cs (Set ranges) q h k m = absurd k
means_some (class sort) cs r q h k m = absurd h
means_some (both t u) cs (Then' p a q b) (Then' p' c q' d) h k m = either_way (means_some t cs a c h.0 k.0) (means_some u cs b d h.1 k.1) m
means_some (both t u) cs (Then' p a q b) s h k m = absurd k
means_some (both t u) cs r s h k m = absurd h
means_some (either t u) cs (Or' p a q b) (Or' p' c q' d) h k m = either_way (means_some t cs a c h.0 k.0) (means_some u cs b d h.1 k.1) m
means_some (either t u) cs (Or' p a q b) s h k m = absurd k
means_some (either t u) cs r s h k m = absurd h
means_some (any t) cs (Star' p a) (Star' p' c) h k m = means_some t cs a c h k m
means_some (any t) cs (Star' p a) s h k m = absurd k
means_some (any t) cs r s h k m = absurd h
means_some (times t least most) cs (Times' p a l n) (Times' p' c l' n') h k m = means_some t cs a c h.0 k.0 m
means_some (times t least most) cs (Times' p a l n) s h k m = absurd k
means_some (times t least most) cs r s h k m = absurd h

same_some : (pattern letters : List ℕ) (r q : Regex) → IsPatternOf pattern r → IsPatternOf pattern q → HasSomeOf letters r → HasSomeOf letters q
same_some pattern letters r q a b m = means_some b.0 letters r q (subst (λ t. Means t r) (same_reading pattern a.0 b.0 a.1 b.1) a.2) b.2 m

-- what a test of a pattern's regex says of the pattern
pub inside_test : (t : Bool) (pattern letters : List ℕ) (r : Regex) → IsPatternOf pattern r → IsTrue t ↔ HasSomeOf letters r → IsTrue t ↔ HasInside letters pattern
inside_test t pattern letters r of test = (λ yes. (r, of, test.0 yes), λ (q, of_q, some). test.1 (same_some pattern letters q r of_q of some))
