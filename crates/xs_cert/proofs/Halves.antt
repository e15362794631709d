-- What was written of a side is its half.
use Rattle.std.proofs.Common.{◌≡◌, ◌↔◌, ℕ, ◌<◌, ◌≤◌, ◌&&◌, nat_eq, Bool, true, List, [], ◌∷◌, ◌++◌, length, map, flat_map, codes, refl, sym, ap, ◌∙◌, arith, append-nil, append_assoc}
use Rattle.std.specs.List.{Contains}
use Rattle.std.proofs.lemmas.Option.{slice_get_within, get_or_from_slice_get}
use Rattle.xs_class.proofs.Truth.{eq_self, both_true}
use Rattle.xs_auto.specs.Nests.{Group, no_group, group_at, IsGroup, IsFenced, ShareContent, AreShared}
use Rattle.xs_gram.specs.Grammar.{Grammar}
use Rattle.xs_meet.specs.Closed.{Marked}
use Rattle.xs_meet.specs.Sharing.{Sharing, has_at, IsSharedOf}
use Rattle.xs_meet.proofs.SharingLemmas.{exactly}
use Rattle.xs_closed.specs.Rows.{Grid, marked}
use Rattle.xs_cert_lines.specs.Lines.{Lines, written}
use Rattle.xs_cert_laws.specs.Blocks.{Head, Block, head, block_lines, IsRight}
use Rattle.xs_cert_laws.specs.Certificates.{between, one_fence, IsFencePair, Half, IsHalf, Shares, share_line, half_lines, heads, group_heads, rule_heads, cut_heads}
use Rattle.xs_cert_laws.specs.Exact.{IsExact}
use Rattle.xs_cert.specs.Sides.{open_heads, side_heads}
use Rattle.xs_cert.specs.Writing.{Adds, IsSource, Relates, shares_in, AddsBlocks, AddsHalf}
use Rattle.xs_cert.proofs.Adding.{adds_lines}
use Rattle.xs_cert.proofs.Same.{right_same, least_same}
use Rattle.xs_cert.proofs.Shares.{are_shares, share_from, share_to, same_heads}

-- the marks are exact
pub related_exact : (nest : List Group) (s : Sharing) (z : Grid) → IsFenced nest → IsSharedOf nest s → Relates s z → (h k : ℕ) → (marked z h k ≡ true) ↔ AreShared nest h k
related_exact nest s z fenced shared relates h k =
    let exact = exactly nest s fenced shared h k in
    (λ says. exact.0 (sym (relates h k) ∙ says), λ share. relates h k ∙ exact.1 share)

shared_inside : (nest : List Group) (h k : ℕ) → AreShared nest h k → (h < length nest) × (k < length nest)
shared_inside nest h k share = (slice_get_within nest h share.1.first share.1.is_first, slice_get_within nest k share.1.second share.1.is_second)

same_number : {m n : ℕ} → m ≡ n → nat_eq m n ≡ true
same_number e = rw e (eq_self _)

shared_fence : (nest : List Group) (h k : ℕ) → AreShared nest h k → one_fence nest h k ≡ true
shared_fence nest h k share =
    let s = share.1 in
    let first = get_or_from_slice_get nest h s.first no_group s.is_first in
    let second = get_or_from_slice_get nest k s.second no_group s.is_second in
    both_true _ _ (same_number (ap (λ x. x.left) first ∙ s.fence.left ∙ sym (ap (λ x. x.left) second))) (same_number (ap (λ x. x.right) first ∙ s.fence.right ∙ sym (ap (λ x. x.right) second)))

shared_turned : (nest : List Group) (h k : ℕ) → AreShared nest h k → AreShared nest k h
shared_turned nest h k share =
    let s = share.1 in
    (share.0, record { first = s.second; second = s.first; is_first = s.is_second; is_second = s.is_first; fence = record { left = sym s.fence.left; right = sym s.fence.right }; accepts_first = s.accepts_second; accepts_second = s.accepts_first })

flat_same : {A : Type 0} (f k : ℕ → List A) (xs : List ℕ) → ((n : ℕ) → f n ≡ k n) → flat_map f xs ≡ flat_map k xs
flat_same f k [] e = refl
flat_same f k (x ∷ xs) e = rw (e x) (ap (λ ys. k x ++ ys) (flat_same f k xs e))

module _ (g : Grammar) (nest : List Group) (z : Grid) (source : IsSource g nest z) where
  inside : (h k : ℕ) → marked z h k ≡ true → (h < length nest) × (k < length nest)
  inside h k says = shared_inside nest h k ((source.exact h k).0 says)

  turned : (h k : ℕ) → marked z h k ≡ true → marked z k h ≡ true
  turned h k says = (source.exact k h).1 (shared_turned nest h k ((source.exact h k).0 says))

  from : (h k : ℕ) → Marked (marked z) h k → Shares (shares_in (length nest) (marked z)) h k
  from = share_from (length nest) (marked z) turned inside

  to : (h k : ℕ) → Shares (shares_in (length nest) (marked z)) h k → Marked (marked z) h k
  to = share_to (length nest) (marked z) turned inside

  pub half_written : (old mid new : List ℕ) → Adds old mid (map share_line (shares_in (length nest) (marked z)))
      → AddsBlocks g nest (Marked (marked z)) (side_heads g nest (marked z)) mid new → AddsHalf g old new
  half_written old mid new shares blocks = record {
    half = record { nest = nest; shares = shares_in (length nest) (marked z); blocks = blocks.blocks };
    whole = record {
      nest = source.nest;
      shares = are_shares nest (marked z) (λ h k says order within. record { order = order; within = within; fence = shared_fence nest h k ((source.exact h k).0 says) });
      order = append-nil (map head blocks.blocks) ∙ blocks.are_for ∙ ap (λ hs. hs ++ (flat_map (rule_heads g) (between 0 (length g.rules)) ++ flat_map (cut_heads g) (between 0 (length g.rules)))) (flat_same (open_heads nest (marked z)) (group_heads nest (shares_in (length nest) (marked z))) (between 0 (length nest)) (same_heads (length nest) (marked z) turned inside nest));
      right = λ b there. right_same (Marked (marked z)) (Shares (shares_in (length nest) (marked z))) to g nest b (blocks.right b there).0;
    };
    exact = record {
      shares = λ h k. (λ says. (source.exact h k).0 (to h k says), λ share. from h k ((source.exact h k).1 share));
      least = λ b there. least_same (Marked (marked z)) (Shares (shares_in (length nest) (marked z))) from b (blocks.right b there).1;
    };
    adds = adds_lines old (map share_line (shares_in (length nest) (marked z))) (flat_map block_lines blocks.blocks) shares blocks.adds;
  }
