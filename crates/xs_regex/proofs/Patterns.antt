-- The regexes of one tree have one shape, and the same classes.
use Rattle.std.proofs.Common.{◌≡◌, ◌∙◌, ℕ, true, List, [], ◌∷◌, refl, sym, ap, subst}
use Rattle.xs_class.proofs.Ranges.{one_class}
use Rattle.xs_regex.specs.declared.regex.Regex.{Regex}
use Rattle.xs_regex.specs.declared.regex.Regex.TheVariants.{Empty, Set, Then', Or', Star', Times'}
use Rattle.xs_regex.specs.Links.{Shape, bare_of, place, turn, choice, once_or_more, at_most_once, as_often, shape}
use Rattle.xs_regex.specs.Meaning.{Means, IsPatternOf}
use Rattle.xs_regex.specs.Pattern.{Tree, nothing, class, both, either, any, times}
use Rattle.xs_regex.specs.Size.{sets}
use Rattle.xs_regex.proofs.Readings.{same_reading}

-- the shape of the regexes of a tree
abbrev tree_shape : Tree → Shape
tree_shape nothing = bare_of true
tree_shape (class sort) = place
tree_shape (both t u) = turn (tree_shape t) (tree_shape u)
tree_shape (either t u) = choice (tree_shape t) (tree_shape u)
tree_shape (any t) = at_most_once (once_or_more (tree_shape t))
tree_shape (times t least most) = as_often least most (tree_shape t)

means_shape : (t : Tree) (r : Regex) → Means t r → shape r ≡ tree_shape t
means_shape nothing Empty h = refl
means_shape (class sort) (Set ranges) h = refl
means_shape (both t u) (Then' p a q b) h = rw (means_shape t a h.0, means_shape u b h.1) refl
means_shape (either t u) (Or' p a q b) h = rw (means_shape t a h.0, means_shape u b h.1) refl
means_shape (any t) (Star' p a) h = ap (λ s. at_most_once (once_or_more s)) (means_shape t a h)
means_shape (times t least most) (Times' p a least_of most_of) h = rw (h.1, h.2, means_shape t a h.0) refl
means_shape t r h = absurd h

means_sets : (t : Tree) (r q : Regex) → Means t r → Means t q → sets r ≡ sets q
means_sets nothing Empty Empty h k = refl
means_sets nothing Empty q h k = absurd k
means_sets nothing r q h k = absurd h
means_sets (class sort) (Set ranges) (Set others) h k =
    ap (λ (c : List (ℕ × ℕ)). let cs : List (List (ℕ × ℕ)) = c ∷ [] in cs) (one_class ranges others h.0 k.0 (λ s. (λ m. (k.1 s).1 ((h.1 s).0 m), λ m. (h.1 s).1 ((k.1 s).0 m))))
means_sets (class sort) (Set ranges) q h k = absurd k
means_sets (class sort) r q h k = absurd h
means_sets (both t u) (Then' p a q b) (Then' p' c q' d) h k = rw (means_sets t a c h.0 k.0, means_sets u b d h.1 k.1) refl
means_sets (both t u) (Then' p a q b) s h k = absurd k
means_sets (both t u) r s h k = absurd h
means_sets (either t u) (Or' p a q b) (Or' p' c q' d) h k = rw (means_sets t a c h.0 k.0, means_sets u b d h.1 k.1) refl
means_sets (either t u) (Or' p a q b) s h k = absurd k
means_sets (either t u) r s h k = absurd h
means_sets (any t) (Star' p a) (Star' p' c) h k = means_sets t a c h k
means_sets (any t) (Star' p a) s h k = absurd k
means_sets (any t) r s h k = absurd h
means_sets (times t least most) (Times' p a least_of most_of) (Times' p' c least_other most_other) h k =
    rw (sym h.1, sym h.2, sym k.1, sym k.2, means_sets t a c h.0 k.0) refl
means_sets (times t least most) (Times' p a least_of most_of) s h k = absurd k
means_sets (times t least most) r s h k = absurd h

pub same_shape : (pattern : List ℕ) (r q : Regex) → IsPatternOf pattern r → IsPatternOf pattern q → shape r ≡ shape q
same_shape pattern r q a b = means_shape a.0 r a.2 ∙ sym (means_shape a.0 q (subst (λ t. Means t q) (same_reading pattern b.0 a.0 b.1 a.1) b.2))

pub same_sets : (pattern : List ℕ) (r q : Regex) → IsPatternOf pattern r → IsPatternOf pattern q → sets r ≡ sets q
same_sets pattern r q a b = means_sets a.0 r q a.2 (subst (λ t. Means t q) (same_reading pattern b.0 a.0 b.1 a.1) b.2)
