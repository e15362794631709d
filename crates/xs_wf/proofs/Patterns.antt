-- What is known of all regexes of one pattern.
use Rattle.std.proofs.Common.{◌≡◌, ◌≤◌, subst, ℕ, List, Bool, true, false, not, refl, arith}
use Rattle.std.specs.Prelude.{IsTrue, ◌↔◌}
use Rattle.xs_regex.specs.declared.regex.Regex.{Regex}
use Rattle.xs_regex.specs.declared.regex.Regex.TheVariants.{Empty, Set, Then', Or', Star', Times'}
use Rattle.xs_regex.specs.Matches.{Matches}
use Rattle.xs_regex.specs.Meaning.{IsPatternOf, Means}
use Rattle.xs_regex.specs.Pattern.{Tree, nothing, class, both, either, any, times}
use Rattle.xs_regex.specs.Size.{size, HasMembers}
use Rattle.xs_regex.proofs.Meanings.{means_size, same_words}
use Rattle.xs_regex.proofs.Readings.{same_reading}
use Rattle.xs_pair.proofs.Decided.{yes, no}
use Rattle.xs_wf.specs.Units.{HasEmptyClass, IsUnmatched}

-- regexes of one tree have classes with the same members
means_members : (t : Tree) (r q : Regex) → Means t r → Means t q → HasMembers r → HasMembers q
means_members nothing Empty Empty h k m = tt
means_members nothing Empty q h k m = absurd k
means_members nothing r q h k m = absurd h
means_members (class sort) (Set ranges) (Set others) h k m = (m.0, (k.1 m.0).1 ((h.1 m.0).0 m.1))
means_members (class sort) (Set ranges) q h k m = absurd k
means_members (class sort) r q h k m = absurd h
means_members (both t u) (Then' p a q b) (Then' p' c q' d) h k m = (means_members t a c h.0 k.0 m.0, means_members u b d h.1 k.1 m.1)
means_members (both t u) (Then' p a q b) s h k m = absurd k
means_members (both t u) r s h k m = absurd h
means_members (either t u) (Or' p a q b) (Or' p' c q' d) h k m = (means_members t a c h.0 k.0 m.0, means_members u b d h.1 k.1 m.1)
means_members (either t u) (Or' p a q b) s h k m = absurd k
means_members (either t u) r s h k m = absurd h
means_members (any t) (Star' p a) (Star' p' c) h k m = means_members t a c h k m
means_members (any t) (Star' p a) s h k m = absurd k
means_members (any t) r s h k m = absurd h
means_members (times t least most) (Times' p a l n) (Times' p' c l' n') h k m = means_members t a c h.0 k.0 m
means_members (times t least most) (Times' p a l n) s h k m = absurd k
means_members (times t least most) r s h k m = absurd h

pub same_members : (pattern : List ℕ) (r q : Regex) → IsPatternOf pattern r → IsPatternOf pattern q → HasMembers r → HasMembers q
same_members pattern r q a b m = means_members b.0 r q (subst (λ t. Means t r) (same_reading pattern a.0 b.0 a.1 b.1) a.2) b.2 m

pub pattern_size : (pattern : List ℕ) (r : Regex) → IsPatternOf pattern r → size r ≤ 512
pattern_size pattern r a = let e = means_size a.0 r a.2 in omega (arith, e, a.1.small)

-- what a test of a pattern's regex says of the pattern
pub empty_test : (b : Bool) (pattern : List ℕ) (r : Regex) → IsPatternOf pattern r → IsTrue b ↔ HasMembers r → IsTrue (not b) ↔ HasEmptyClass pattern
empty_test true pattern r of test = no (λ (q, of_q, none). none (same_members pattern r q of of_q (test.0 refl)))
empty_test false pattern r of test = yes (r, of, λ m. bad (test.1 m))
  where
    bad : false ≡ true → ⊥
    bad e = cc

pub unmatched_test : (b : Bool) (pattern text : List ℕ) (r : Regex) → IsPatternOf pattern r → IsTrue b ↔ Matches r text → IsTrue (not b) ↔ IsUnmatched pattern text
unmatched_test true pattern text r of test = no (λ (q, of_q, none). none (same_words pattern r q of of_q text (test.0 refl)))
unmatched_test false pattern text r of test = yes (r, of, λ m. bad (test.1 m))
  where
    bad : false ≡ true → ⊥
    bad e = cc
