-- What the regexes of a tree have in common.
use Rattle.std.proofs.Common.{◌≡◌, ◌⊎◌, ◌∙◌, ℕ, zero, suc, ◌+◌, ◌*◌, ◌<◌, ◌≤◌, Bool, true, false, ◌&&◌, ◌==◌, nat_le, List, [], ◌∷◌, length, refl, sym, ap, subst, inl, inr, arith, None, Some, min, if◌then◌else◌}
use Rattle.std.proofs.Common.{leb-true}
use Rattle.std.proofs.Math.Nat.{mul-le-mul_left}
use Rattle.std.specs.declared.option.Option.{Option}
use Rattle.std.proofs.lemmas.Option.{same_Some}
use Rattle.xs_regex.specs.declared.regex.Regex.{Regex}
use Rattle.xs_regex.specs.declared.regex.Regex.TheVariants.{Empty, Set, Then', Or', Star', Times'}
use Rattle.xs_regex.specs.Characters.{count_at, most_end, most_at, least_end, counts_at}
use Rattle.xs_regex.specs.Matches.{AtMost, Matches}
use Rattle.xs_regex.specs.Meaning.{Means, IsPatternOf}
use Rattle.xs_regex.specs.Pattern.{Tree, nothing, class, both, either, any, times, IsCounted, once, star, plus, question, braces, IsRegex, one_sequence, bar, IsSequence, no_piece, pieces, ArePieces, last_piece, next_piece, IsPiece, piece, IsAtom, set, group, IsReading, tree_size}
use Rattle.xs_regex.specs.Scan.{regex_at}
use Rattle.xs_regex.specs.Size.{copies, size, IsInOrder, IsBounded}
use Rattle.xs_regex.proofs.Readings.{read_whole, found_whole, same_reading}
use Rattle.xs_regex.proofs.Repetition.{each_weaker}

pub means_size : (t : Tree) (r : Regex) → Means t r → size r ≡ tree_size t
means_size nothing Empty h = refl
means_size (class sort) (Set ranges) h = refl
means_size (both t u) (Then' p a q b) h = omega (arith, means_size t a h.0, means_size u b h.1)
means_size (either t u) (Or' p a q b) h = omega (arith, means_size t a h.0, means_size u b h.1)
means_size (any t) (Star' p a) h = means_size t a h
means_size (times t least most) (Times' p a least_of most_of) h = ap (λ n. copies n most_of * size a) (sym h.1) ∙ ap (λ m. copies least m * size a) (sym h.2) ∙ ap (λ n. copies least most * n) (means_size t a h.0)
means_size t r h = absurd h

-- the counts of a tree are in order
abbrev TreeBounded : Tree → Type 0
TreeBounded nothing = Unit {0}
TreeBounded (class sort) = Unit {0}
TreeBounded (both t u) = TreeBounded t × TreeBounded u
TreeBounded (either t u) = TreeBounded t × TreeBounded u
TreeBounded (any t) = TreeBounded t
TreeBounded (times t least most) = IsInOrder least most × TreeBounded t

means_bounded : (t : Tree) (r : Regex) → Means t r → TreeBounded t → IsBounded r
means_bounded nothing Empty h b = tt
means_bounded (class sort) (Set ranges) h b = tt
means_bounded (both t u) (Then' p a q b) h k = (means_bounded t a h.0 k.0, means_bounded u b h.1 k.1)
means_bounded (either t u) (Or' p a q b) h k = (means_bounded t a h.0 k.0, means_bounded u b h.1 k.1)
means_bounded (any t) (Star' p a) h b = means_bounded t a h b
means_bounded (times t least most) (Times' p a least_of most_of) h b = (subst (λ n. IsInOrder n most_of) h.1 (subst (λ m. IsInOrder least m) h.2 b.0), means_bounded t a h.0 b.1)
means_bounded t r h b = absurd h

abbrev InOrder : Option ((ℕ × Option ℕ) × List ℕ) → Type 0
InOrder None = Unit {0}
InOrder (Some x) = IsInOrder x.0.0 x.0.1

if_in_order : (b : Bool) (x y : Option ((ℕ × Option ℕ) × List ℕ)) → InOrder x → InOrder y → InOrder (if b then x else y)
if_in_order true x y h k = h
if_in_order false x y h k = k

guarded : (a : Bool) (least most : ℕ) (cs : List ℕ) → InOrder (if a && nat_le least most then Some ((least, Some most), cs) else None)
guarded false least most cs = tt
guarded true least most cs = by_test (nat_le least most) refl
  where
    by_test : (b : Bool) → nat_le least most ≡ b → InOrder (if b then Some ((least, Some most), cs) else None)
    by_test true e = leb-true least most e
    by_test false e = tt

most_end_in_order : (least : ℕ) (o : Option (ℕ × List ℕ)) → InOrder (most_end least o)
most_end_in_order least None = tt
most_end_in_order least (Some (most, [])) = tt
most_end_in_order least (Some (most, c ∷ cs)) = guarded (c == 125) least most cs

most_in_order : (least : ℕ) (cs : List ℕ) → InOrder (most_at least cs)
most_in_order least [] = tt
most_in_order least (c ∷ cs) = if_in_order (c == 125) _ _ tt (most_end_in_order least (count_at (c ∷ cs)))

least_end_in_order : (o : Option (ℕ × List ℕ)) → InOrder (least_end o)
least_end_in_order None = tt
least_end_in_order (Some (least, [])) = tt
least_end_in_order (Some (least, c ∷ cs)) = if_in_order (c == 125) _ _ (omega arith) (if_in_order (c == 44) _ _ (most_in_order least cs) tt)

counts_in_order : (cs rest : List ℕ) (least : ℕ) (most : Option ℕ) → counts_at cs ≡ Some ((least, most), rest) → IsInOrder least most
counts_in_order cs rest least most e = subst (λ o. InOrder o) e (least_end_in_order (count_at cs))

counted_bounded : {t u : Tree} {cs rest : List ℕ} → IsCounted t cs u rest → TreeBounded t → TreeBounded u
counted_bounded (once p) b = b
counted_bounded (star e) b = b
counted_bounded (plus e) b = (tt, b)
counted_bounded (question e) b = (omega arith, b)
counted_bounded {rest = rest} (braces least most inner e is) b = (counts_in_order inner rest least most is, b)

mutual
  regex_bounded : {d : ℕ} {t : Tree} {cs rest : List ℕ} → IsRegex d cs t rest → TreeBounded t
  regex_bounded (one_sequence s) = sequence_bounded s
  regex_bounded (bar left s r) = (sequence_bounded s, regex_bounded r)

  sequence_bounded : {d : ℕ} {t : Tree} {cs rest : List ℕ} → IsSequence d cs t rest → TreeBounded t
  sequence_bounded no_piece = tt
  sequence_bounded (pieces p) = pieces_bounded p

  pieces_bounded : {d : ℕ} {t : Tree} {cs rest : List ℕ} → ArePieces d cs t rest → TreeBounded t
  pieces_bounded (last_piece p) = piece_bounded p
  pieces_bounded (next_piece left p q) = (piece_bounded p, pieces_bounded q)

  piece_bounded : {d : ℕ} {t : Tree} {cs rest : List ℕ} → IsPiece d cs t rest → TreeBounded t
  piece_bounded (piece t left a c) = counted_bounded c (atom_bounded a)

  atom_bounded : {d : ℕ} {t : Tree} {cs rest : List ℕ} → IsAtom d cs t rest → TreeBounded t
  atom_bounded (set s is) = tt
  atom_bounded (group inner e r) = regex_bounded r

-- regexes of one tree match the same words
means_same : (t : Tree) (r q : Regex) → Means t r → Means t q → (w : List ℕ) → Matches r w → Matches q w
means_same nothing Empty Empty h k w m = m
means_same nothing Empty q h k w m = absurd k
means_same nothing r q h k w m = absurd h
means_same (class sort) (Set ranges) (Set others) h k w m = (m.0, (k.1 m.0).1 ((h.1 m.0).0 m.1), m.2)
means_same (class sort) (Set ranges) q h k w m = absurd k
means_same (class sort) r q h k w m = absurd h
means_same (both t u) (Then' p a q b) (Then' p' c q' d) h k w m = (m.0, m.1, m.2, means_same t a c h.0 k.0 m.0 m.3, means_same u b d h.1 k.1 m.1 m.4)
means_same (both t u) (Then' p a q b) s h k w m = absurd k
means_same (both t u) r s h k w m = absurd h
means_same (either t u) (Or' p a q b) (Or' p' c q' d) h k w m = elim m [ inl x ↦ inl (means_same t a c h.0 k.0 w x) | inr x ↦ inr (means_same u b d h.1 k.1 w x) ]
means_same (either t u) (Or' p a q b) s h k w m = absurd k
means_same (either t u) r s h k w m = absurd h
means_same (any t) (Star' p a) (Star' p' c) h k w m = (m.0, m.1, each_weaker (λ u. Matches a u) (λ u. Matches c u) (λ u x. means_same t a c h k u x) m.0 m.2)
means_same (any t) (Star' p a) s h k w m = absurd k
means_same (any t) r s h k w m = absurd h
means_same (times t least most) (Times' p a l n) (Times' p' c l' n') h k w m =
    let low : l ≡ l' = sym h.1 ∙ k.1 in
    let high : n ≡ n' = sym h.2 ∙ k.2 in
    (m.0, m.1, each_weaker (λ u. Matches a u) (λ u. Matches c u) (λ u x. means_same t a c h.0 k.0 u x) m.0 m.2, subst (λ x. x ≤ length m.0) low m.3, subst (λ x. AtMost (length m.0) x) high m.4)
means_same (times t least most) (Times' p a l n) s h k w m = absurd k
means_same (times t least most) r s h k w m = absurd h

pub same_words : (pattern : List ℕ) (r q : Regex) → IsPatternOf pattern r → IsPatternOf pattern q → (w : List ℕ) → Matches r w → Matches q w
same_words pattern r q a b w m = means_same b.0 r q (subst (λ t. Means t r) (same_reading pattern a.0 b.0 a.1 b.1) a.2) b.2 w m

-- the regex of a whole pattern
pub pattern_read : (pattern : List ℕ) (r : Regex) → length pattern ≤ 2048 → size r ≤ 512 → (t : Tree) × (regex_at (3 * length pattern + 3) 64 pattern ≡ Some (t, [])) × Means t r → IsPatternOf pattern r
pattern_read pattern r short small h = (
  h.0,
  record {
    short = short;
    regex = found_whole (3 * length pattern + 3) pattern h.0 h.1;
    small = (let e = means_size h.0 r h.2 in omega (arith, e));
  },
  h.2,
)

pub pattern_bounded : (pattern : List ℕ) (r : Regex) → (t : Tree) × (regex_at (3 * length pattern + 3) 64 pattern ≡ Some (t, [])) × Means t r → IsBounded r
pattern_bounded pattern r h = means_bounded h.0 r h.2 (regex_bounded (found_whole (3 * length pattern + 3) pattern h.0 h.1))

pub pattern_none : (pattern : List ℕ) → ((t : Tree) → regex_at (3 * length pattern + 3) 64 pattern ≡ Some (t, []) → ⊥) → (t : Tree) → IsReading pattern t → ⊥
pattern_none pattern none t a = none t (read_whole (3 * length pattern + 3) pattern t (omega arith) a.regex)

pub pattern_large : (pattern : List ℕ) (r : Regex) → 512 < size r → (t : Tree) × (regex_at (3 * length pattern + 3) 64 pattern ≡ Some (t, [])) × Means t r → (u : Tree) → IsReading pattern u → ⊥
pattern_large pattern r large h u a =
    let e = read_whole (3 * length pattern + 3) pattern u (omega arith) a.regex in
    let same : h.0 ≡ u = same_tree h.0 u (sym h.1 ∙ e) in
    let size_is : size r ≡ tree_size u = means_size u r (subst (λ t. Means t r) same h.2) in
    omega (arith, size_is, a.small)
  where
    same_tree : (t u : Tree) → ◌≡◌ {A = Option (Tree × List ℕ)} (Some (t, [])) (Some (u, [])) → t ≡ u
    same_tree t u e = let inner : ◌≡◌ {A = Tree × List ℕ} (t, []) (u, []) = same_Some (t, []) (u, []) e in ap (λ (p : Tree × List ℕ). p.0) inner

-- sizes up to 513
pub times_up_to : (n s : ℕ) → min (n * min s 513) 513 ≡ min (n * s) 513
times_up_to zero s = omega arith
times_up_to (suc n) s = elim (at_most s) [
  | inl h ↦ ap (λ x. min (suc n * x) 513) h
  | inr h ↦
      let least : 513 ≤ s = h.0 in
      let one : 513 ≤ suc n * 513 = omega arith in
      let two : suc n * 513 ≤ suc n * s = mul-le-mul_left (suc n) least in
      let is : min s 513 ≡ 513 = h.1 in
      rw is (omega arith)
]
  where
    at_most : (s : ℕ) → (min s 513 ≡ s) ⊎ ((513 ≤ s) × (min s 513 ≡ 513))
    at_most s = grind arith
