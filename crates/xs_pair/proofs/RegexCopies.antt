-- What a copy of a regex has in common with it.
use Rattle.std.proofs.Common.{◌∙◌, ◌*◌, ◌+◌, ℕ, List, length, sym, subst, arith}
use Rattle.xs_regex.specs.declared.regex.Regex.{Regex}
use Rattle.xs_regex.specs.declared.regex.Regex.TheVariants.{Empty, Set, Then', Or', Star', Times'}
use Rattle.xs_regex.specs.Meaning.{IsClassOf, IsPatternOf, Means}
use Rattle.xs_regex.specs.Pattern.{Tree, nothing, class, both, either, any, times}
use Rattle.xs_regex.proofs.Meanings.{means_size, pattern_bounded}
use Rattle.xs_regex.proofs.Readings.{read_whole}
use Rattle.xs_gram.specs.Building.{IsFit}
use Rattle.xs_pair.specs.Regexes.{IsCopyOf}

means_copy : (t : Tree) (r q : Regex) → IsCopyOf r q → Means t r → Means t q
means_copy nothing Empty Empty c h = tt
means_copy nothing Empty q c h = absurd c
means_copy nothing r q c h = absurd h
means_copy (class sort) (Set ranges) (Set others) c h = subst (λ (rs : List (ℕ × ℕ)). IsClassOf sort rs) (sym c) h
means_copy (class sort) (Set ranges) q c h = absurd c
means_copy (class sort) r q c h = absurd h
means_copy (both t u) (Then' p a q b) (Then' p' d q' e) c h = (means_copy t a d c.0 h.0, means_copy u b e c.1 h.1)
means_copy (both t u) (Then' p a q b) s c h = absurd c
means_copy (both t u) r s c h = absurd h
means_copy (either t u) (Or' p a q b) (Or' p' d q' e) c h = (means_copy t a d c.0 h.0, means_copy u b e c.1 h.1)
means_copy (either t u) (Or' p a q b) s c h = absurd c
means_copy (either t u) r s c h = absurd h
means_copy (any t) (Star' p a) (Star' p' d) c h = means_copy t a d c h
means_copy (any t) (Star' p a) s c h = absurd c
means_copy (any t) r s c h = absurd h
means_copy (times t least most) (Times' p a l n) (Times' p' d m o) c h = (means_copy t a d c.0 h.0, h.1 ∙ sym c.1, h.2 ∙ sym c.2)
means_copy (times t least most) (Times' p a l n) s c h = absurd c
means_copy (times t least most) r s c h = absurd h

-- a copy is of the same pattern
pub pattern_copy : (pattern : List ℕ) (r q : Regex) → IsPatternOf pattern r → IsCopyOf r q → IsPatternOf pattern q
pattern_copy pattern r q of copy = (of.0, of.1, means_copy of.0 r q copy of.2)

-- the regex of a pattern is fit for a grammar
pub pattern_fit : (pattern : List ℕ) (r : Regex) → IsPatternOf pattern r → IsFit r
pattern_fit pattern r of = record {
  size = (let size_is = means_size of.0 r of.2 in omega (arith, size_is, of.1.small));
  bounded = pattern_bounded pattern r (of.0, read_whole (3 * length pattern + 3) pattern of.0 (omega arith) of.1.regex, of.2);
}
