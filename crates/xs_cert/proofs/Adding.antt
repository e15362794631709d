-- How what was written grows by lines and by blocks.
use Rattle.std.proofs.Common.{◌≡◌, ℕ, zero, suc, List, [], ◌∷◌, ◌++◌, ◌+◌, ◌<◌, length, get_or, take, map, flat_map, codes, refl, sym, ap, ◌∙◌, append_assoc, append-nil, inl, inr, arith}
use Rattle.std.specs.List.{Contains}
use Rattle.std.proofs.lemmas.List.Elements.{Contains-append_cases}
use Rattle.std.proofs.lemmas.List.{map-append}
use Rattle.std.proofs.lemmas.List.Concat.{flat_map-append}
use Rattle.xs_class.proofs.Lists.{take_next}
use Rattle.xs_auto.specs.Nests.{Group}
use Rattle.xs_gram.specs.Grammar.{Grammar}
use Rattle.xs_cert_lines.specs.Lines.{Lines, ended, written}
use Rattle.xs_cert_laws.specs.Blocks.{Head, Block, head, block_lines, IsRight}
use Rattle.xs_cert_laws.specs.Exact.{IsLeast}
use Rattle.xs_cert.specs.Writing.{AddsBlock, AddsBlocks}
use Rattle.xs_cert.proofs.Standing.{written-append}

-- a line and those of a set
pub adds_set : (o0 line : List ℕ) {o1 o2 : List ℕ} (z : Lines) → o1 ≡ o0 ++ ended line → o2 ≡ o1 ++ written z → o2 ≡ o0 ++ written (line ∷ z)
adds_set o0 line z e1 e2 = e2 ∙ ap (λ x. x ++ written z) e1 ∙ append_assoc o0 (ended line) (written z)

-- the lines of a cut's block, one after another
pub adds_cut : (o0 line : List ℕ) {o1 o2 o3 o4 o5 o6 o7 o8 o9 : List ℕ} (z1 z0 z2 z3 : Lines)
    → o1 ≡ o0 ++ ended line → o2 ≡ o1 ++ ended (codes "set 1") → o3 ≡ o2 ++ written z1 → o4 ≡ o3 ++ ended (codes "set 0") → o5 ≡ o4 ++ written z0
    → o6 ≡ o5 ++ ended (codes "set 2") → o7 ≡ o6 ++ written z2 → o8 ≡ o7 ++ ended (codes "set 3") → o9 ≡ o8 ++ written z3
    → o9 ≡ o0 ++ written (line ∷ codes "set 1" ∷ (z1 ++ codes "set 0" ∷ (z0 ++ codes "set 2" ∷ (z2 ++ codes "set 3" ∷ z3))))
adds_cut o0 line z1 z0 z2 z3 e1 e2 e3 e4 e5 e6 e7 e8 e9 =
    let three = written-append z2 (codes "set 3" ∷ z3) in
    let two = written-append z0 (codes "set 2" ∷ (z2 ++ codes "set 3" ∷ z3)) in
    let one = written-append z1 (codes "set 0" ∷ (z0 ++ codes "set 2" ∷ (z2 ++ codes "set 3" ∷ z3))) in
    rw (e9, e8, e7, e6, e5, e4, e3, e2, e1, one, two, three) (simp append_assoc)

pub adds_lines : (old : List ℕ) {mid new : List ℕ} (xs ys : Lines) → mid ≡ old ++ written xs → new ≡ mid ++ written ys → new ≡ old ++ written (xs ++ ys)
adds_lines old xs ys a b = b ∙ ap (λ o. o ++ written ys) a ∙ append_assoc old (written xs) (written ys) ∙ ap (λ o. old ++ o) (sym (written-append xs ys))

pub adds_line : (old : List ℕ) {mid new : List ℕ} (xs : Lines) (line : List ℕ) → mid ≡ old ++ written xs → new ≡ mid ++ ended line → new ≡ old ++ written (xs ++ line ∷ [])
adds_line old {mid} xs line a b = adds_lines old xs (line ∷ []) a (b ∙ ap (λ o. mid ++ o) (sym (append-nil (ended line))))

module _ (g : Grammar) (nest : List Group) (R : ℕ → ℕ → Type 0) where
  pub adds_none : (out : List ℕ) → AddsBlocks g nest R [] out out
  adds_none out = record { blocks = []; are_for = refl; right = λ b there. absurd (omega (arith, there.1)); adds = sym (append-nil out) }

  pub adds_both : (hs js : List Head) {old mid new : List ℕ} → AddsBlocks g nest R hs old mid → AddsBlocks g nest R js mid new → AddsBlocks g nest R (hs ++ js) old new
  adds_both hs js {old} a b = record {
    blocks = a.blocks ++ b.blocks;
    are_for = map-append head a.blocks b.blocks ∙ ap (λ x. x ++ map head b.blocks) a.are_for ∙ ap (λ x. hs ++ x) b.are_for;
    right = λ x there. elim (Contains-append_cases a.blocks b.blocks x there) [
      | inl h ↦ a.right x h
      | inr h ↦ b.right x h
    ];
    adds = b.adds ∙ ap (λ x. x ++ written (flat_map block_lines b.blocks)) a.adds ∙ append_assoc old (written (flat_map block_lines a.blocks)) (written (flat_map block_lines b.blocks)) ∙ ap (λ x. old ++ x) (sym (written-append (flat_map block_lines a.blocks) (flat_map block_lines b.blocks)) ∙ ap written (sym (flat_map-append block_lines a.blocks b.blocks)));
  }

  one : (h : Head) {old new : List ℕ} → AddsBlock g nest R h old new → AddsBlocks g nest R (h ∷ []) old new
  one h {old} a = record {
    blocks = a.block ∷ [];
    are_for = ap (λ x. x ∷ []) a.is_for;
    right = λ x there. only x there;
    adds = a.adds ∙ ap (λ x. old ++ written x) (sym (append-nil (block_lines a.block)));
  }
    where
      only : (x : Block) → Contains (a.block ∷ []) x → IsRight g nest R x × IsLeast R x
      only x (zero, lt, e) = let same : a.block ≡ x = e in rw (← same) (a.right, a.least)
      only x (suc k, lt, e) = absurd (omega arith)

  pub adds_one : (hs : List Head) (h : Head) {old mid new : List ℕ} → AddsBlocks g nest R hs old mid → AddsBlock g nest R h mid new → AddsBlocks g nest R (hs ++ h ∷ []) old new
  adds_one hs h a b = adds_both hs (h ∷ []) a (one h b)

  -- one place more of a list of partners
  pub adds_next : (make : ℕ → Head) (xs : List ℕ) (at x : ℕ) {old mid new : List ℕ} → at < length xs → x ≡ get_or xs at x → AddsBlocks g nest R (map make (take at xs)) old mid → AddsBlock g nest R (make x) mid new → AddsBlocks g nest R (map make (take (at + 1) xs)) old new
  adds_next make xs at x within is a b = rw (take_next xs at x within is, map-append make (take at xs) (x ∷ [])) (adds_one (map make (take at xs)) (make x) a b)

-- the parts of a certificate, one after another
pub adds_whole : {o0 o1 o2 o3 o4 o5 : List ℕ} (t x : Lines)
    → o0 ≡ [] → o1 ≡ o0 ++ codes "xsugar-cert-1\nside text\n" → o2 ≡ o1 ++ written t → o3 ≡ o2 ++ codes "side xml\n" → o4 ≡ o3 ++ written x → o5 ≡ o4 ++ codes "end\n"
    → o5 ≡ written (((codes "xsugar-cert-1" ∷ codes "side text" ∷ t) ++ codes "side xml" ∷ x) ++ codes "end" ∷ [])
adds_whole {o5 = o5} t x e0 e1 e2 e3 e4 e5 =
    let all = written-append ((codes "xsugar-cert-1" ∷ codes "side text" ∷ t) ++ codes "side xml" ∷ x) (codes "end" ∷ []) ∙ ap (λ z. z ++ written (codes "end" ∷ [])) (written-append (codes "xsugar-cert-1" ∷ codes "side text" ∷ t) (codes "side xml" ∷ x)) in
    let parts : o5 ≡ (((codes "xsugar-cert-1\nside text\n" ++ written t) ++ codes "side xml\n") ++ written x) ++ codes "end\n" = rw (e5, e4, e3, e2, e1, e0) in
    parts ∙ same (written t) (written x) ∙ sym all
  where
    same : (u v : List ℕ) → (((codes "xsugar-cert-1\nside text\n" ++ u) ++ codes "side xml\n") ++ v) ++ codes "end\n" ≡ ((ended (codes "xsugar-cert-1") ++ (ended (codes "side text") ++ u)) ++ (ended (codes "side xml") ++ v)) ++ (ended (codes "end") ++ [])
    same u v = ap (λ z. z ++ codes "end\n") (append_assoc (codes "xsugar-cert-1\nside text\n" ++ u) (codes "side xml\n") v)
