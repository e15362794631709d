-- The net of a whole grammar: what is laid stays laid, and where all rules are laid, it covers the grammar.
use Rattle.std.proofs.Common.{◌≡◌, ◌≢◌, ℕ, suc, ◌+◌, ◌-◌, ◌/◌, ◌<◌, Bool, false, get_or, List, [], length, refl, sym, subst, inl, inr, arith}
use Rattle.std.proofs.lemmas.Bool.{cases_eq, eq-eqb, ne_eqb}
use Rattle.std.specs.Prelude.{nat_eq, if◌then◌else◌}
use Rattle.std.specs.List.{All, Contains}
use Rattle.xs_auto.specs.Nets.{Walks, rests, passes, calls_of}
use Rattle.xs_gram.specs.declared.parts.GItem.{GItem}
use Rattle.xs_gram.specs.declared.parts.GItem.TheVariants.{Fixed, Term, Non, Skip}
use Rattle.xs_gram.specs.Grammar.{Grammar, rule_of}
use Rattle.xs_gram.specs.Fences.{spread, OuterAt, OuterGroupAt}
use Rattle.xs_gram.specs.Loose.{Uses}
use Rattle.xs_gram.proofs.Levels.{group_opened}
use Rattle.xs_loose.specs.Groups.{group_number}
use Rattle.xs_loose.proofs.Numbering.{long_before, left_counts, number_low}
use Rattle.xs_coarse.specs.Coarse.{Table, Net, IsWithin, HasArc, label_count, view}
use Rattle.xs_coarse.specs.Covers.{CoversFrom, call_of}
use Rattle.xs_coarse.specs.Labels.{IsLabelsOf}
use Rattle.xs_coarse.proofs.Views.{view_move, view_call}
use Rattle.xs_coarse_net.specs.Going.{Goes, goes_none, goes_move, goes_read, Grows, LeafGoes}
use Rattle.xs_coarse_net.specs.Reaching.{IsIn, IsClosedIn, IsRestricted}
use Rattle.xs_coarse_net.specs.Whole.{entry_state, exit_state, return_label, rule_base, place_state, spot_state, PlaceLaid, RuleLaid, RulesLaid}
use Rattle.xs_coarse_net.proofs.Going.{goes_grown}
use Rattle.xs_coarse_net.proofs.Viewing.{from_low, leaf_walks}

pub leaf_grown : (g : Grammar) (t : Table) {m n : Net} (i : GItem) (a b : ℕ) → Grows m n → LeafGoes g t m i a b → LeafGoes g t n i a b
leaf_grown g t (Fixed f) a b h p = goes_grown h p
leaf_grown g t (Term i s) a b h p = λ w word. goes_grown h (p w word)
leaf_grown g t (Non m s) a b h p = absurd p
leaf_grown g t (Skip k) a b h p = λ w word. goes_grown h (p w word)

pub place_grown : {g : Grammar} {t : Table} {m n : Net} {p k : ℕ} → Grows m n → PlaceLaid g t m p k → PlaceLaid g t n p k
place_grown {g} {t} {m} {n} {p} {k} h was = record {
  leaves = λ i at leaf. leaf_grown g t i (place_state g p k) (place_state g p (suc k)) h (was.leaves i at leaf);
  enters = λ j s at. h.kept _ (was.enters j s at);
  returns = λ j s at. h.kept _ (was.returns j s at);
  groups = λ j l r inside at. h.kept _ (was.groups j l r inside at);
}

pub rule_grown : {g : Grammar} {t : Table} {m n : Net} {p : ℕ} → Grows m n → RuleLaid g t m p → RuleLaid g t n p
rule_grown h was = record { places = λ k low. place_grown h (was.places k low); passes = λ none. h.kept _ (was.passes none) }

-- one more place, and one more rule
pub places_more : {g : Grammar} {t : Table} {m n : Net} {p : ℕ} (k : ℕ) → Grows m n → ((j : ℕ) → j < k → PlaceLaid g t m p j) → PlaceLaid g t n p k → (j : ℕ) → j < k + 1 → PlaceLaid g t n p j
places_more {g} {t} {m} {n} {p} k h was here j low = elim (cases_eq j k) [
  | inl e ↦ subst (λ (x : ℕ). PlaceLaid g t n p x) (sym e) here
  | inr ne ↦ place_grown h (was j (omega arith))
]

pub rules_more : {g : Grammar} {t : Table} {m n : Net} (p : ℕ) → Grows m n → RulesLaid g t m p → RuleLaid g t n p → RulesLaid g t n (p + 1)
rules_more {g} {t} {m} {n} p h was here q low = elim (cases_eq q p) [
  | inl e ↦ subst (λ (x : ℕ). RuleLaid g t n x) (sym e) here
  | inr ne ↦ rule_grown h (was q (omega arith))
]

-- which state a place has
first_if : (k n a b c : ℕ) → k ≡ 0 → (if nat_eq k 0 then a else (if nat_eq k n then b else c)) ≡ a
first_if k n a b c e = rw (eq-eqb k 0 e) refl

last_if : (k n a b c : ℕ) → k ≢ 0 → k ≡ n → (if nat_eq k 0 then a else (if nat_eq k n then b else c)) ≡ b
last_if k n a b c ne e = rw (ne_eqb k 0 ne, eq-eqb k n e) refl

between_if : (k n a b c : ℕ) → k ≢ 0 → k ≢ n → (if nat_eq k 0 then a else (if nat_eq k n then b else c)) ≡ c
between_if k n a b c ne other = rw (ne_eqb k 0 ne, ne_eqb k n other) refl

pub state_first : (g : Grammar) (p k : ℕ) → k ≡ 0 → place_state g p k ≡ entry_state (rule_of g p).non
state_first g p k e = first_if k (length (spread g p)) (entry_state (rule_of g p).non) (exit_state (rule_of g p).non) (rule_base g p + k) e

pub state_last : (g : Grammar) (p k : ℕ) → k ≢ 0 → k ≡ length (spread g p) → place_state g p k ≡ exit_state (rule_of g p).non
state_last g p k ne e = last_if k (length (spread g p)) (entry_state (rule_of g p).non) (exit_state (rule_of g p).non) (rule_base g p + k) ne e

pub state_between : (g : Grammar) (p k : ℕ) → k ≢ 0 → k ≢ length (spread g p) → place_state g p k ≡ rule_base g p + k
state_between g p k ne other = between_if k (length (spread g p)) (entry_state (rule_of g p).non) (exit_state (rule_of g p).non) (rule_base g p + k) ne other

-- where the places of the next rule begin
pub base_next : (g : Grammar) (p : ℕ) → rule_base g (p + 1) ≡ rule_base g p + length (spread g p)
base_next g p = let e : p + 1 ≡ suc p = omega arith in rw e refl

outer_low : (g : Grammar) (p k : ℕ) (i : GItem) → OuterAt g.fences (spread g p) k i → k < length (spread g p)
outer_low g p k i at = subst (λ (xs : List GItem). k < length xs) (sym at.split) (omega (arith, long_before at.before at.after i, at.place))

-- paths by labels of the grammar are kept
goes_kept : {t : Table} {m n : Net} {has : List Bool} {a b : ℕ} {w : List ℕ} → label_count t < 65536 → IsRestricted has m n → Goes t m a w b → Goes t n a w b
goes_kept few kept goes_none = goes_none
goes_kept few kept (goes_move x p) = goes_move ((kept.kept _ x).plain (omega arith)) (goes_kept few kept p)
goes_kept few kept (goes_read x r p) = goes_read ((kept.kept _ x).plain (omega (arith, few, r.is, r.below))) r (goes_kept few kept p)

leaf_kept : (g : Grammar) (t : Table) {m n : Net} {has : List Bool} (i : GItem) (a b : ℕ) → label_count t < 65536 → IsRestricted has m n → LeafGoes g t m i a b → LeafGoes g t n i a b
leaf_kept g t (Fixed f) a b few kept p = goes_kept few kept p
leaf_kept g t (Term i s) a b few kept p = λ w word. goes_kept few kept (p w word)
leaf_kept g t (Non m s) a b few kept p = absurd p
leaf_kept g t (Skip k) a b few kept p = λ w word. goes_kept few kept (p w word)

module _ {g : Grammar} {t : Table} {m n : Net} {has : List Bool} (labels : IsLabelsOf g t) (laid : RulesLaid g t m (length g.rules)) (kept : IsRestricted has m n) (within : All (IsWithin n.states) n.arcs) where
  moved : (a b : ℕ) → HasArc n a 0 b → Walks (view t n 0 0) a [] b
  moved a b h = passes (view_move t n 0 0 a b (from_low n a 0 b within h) h) rests

  move_kept : (a b : ℕ) → HasArc m a 0 b → Walks (view t n 0 0) a [] b
  move_kept a b h = moved a b ((kept.kept _ h).plain (omega arith))

  ends : (p : ℕ) → p < length g.rules → Walks (view t n 0 0) (place_state g p (length (spread g p))) [] (exit_state (rule_of g p).non)
  ends p low = elim (cases_eq (length (spread g p)) 0) [
    | inl none ↦ subst (λ (k : ℕ). Walks (view t n 0 0) (place_state g p k) [] (exit_state (rule_of g p).non)) (sym none) (move_kept (entry_state (rule_of g p).non) (exit_state (rule_of g p).non) ((laid p low).passes none))
    | inr some ↦ subst (λ (a : ℕ). Walks (view t n 0 0) a [] (exit_state (rule_of g p).non)) (sym (state_last g p (length (spread g p)) some refl)) rests
  ]

  returned : (p k j s : ℕ) → p < length g.rules → IsIn has (rule_of g p).non → OuterAt g.fences (spread g p) k (Non j s) → Walks (view t n 0 0) (exit_state j) [] (place_state g p (suc k))
  returned p k j s low own at =
      let arc = ((laid p low).places k (outer_low g p k (Non j s) at)).returns j s at in
      let same : return_label (rule_of g p).non - 65536 ≡ (rule_of g p).non = omega arith in
      moved (exit_state j) (place_state g p (suc k)) ((kept.kept _ arc).returns (omega arith) (subst (λ (x : ℕ). IsIn has x) (sym same) own))

  called : (p k j l r : ℕ) (inside : List GItem) → p < length g.rules → OuterGroupAt g.fences (spread g p) k j l inside r → Contains (calls_of (view t n 0 0) (place_state g p k)) (call_of g p k (place_state g p (suc j)))
  called p k j l r inside low at =
      let here : k < length (spread g p) = omega (arith, (group_opened at.group).2, at.group.partner) in
      let arc = ((laid p low).places k here).groups j l r inside at in
      let number : group_number g p k < t.groups = omega (arith, labels.groups, left_counts g.fences (spread g p) k j (record { left = l; inside = inside; right = r; group = at.group }), number_low g p (k + 1) low) in
      let own = (kept.kept _ arc).plain (omega (arith, labels.few, number)) in
      view_call t n 0 0 (place_state g p k) _ (place_state g p (suc j)) (from_low n (place_state g p k) _ (place_state g p (suc j)) within own) own

  used : IsClosedIn m has → (a b : ℕ) → IsIn has a → Uses g a b → IsIn has b
  used closed a b own u =
      let p = u.rule in
      let arc = ((laid p u.of.0).places u.dot (outer_low g p u.dot (Non b u.slot) u.item)).returns b u.slot u.item in
      let same : return_label (rule_of g p).non - 65536 ≡ a = omega (arith, u.of.1) in
      let half : exit_state b / 2 ≡ b = omega arith in
      subst (λ (x : ℕ). IsIn has x) half (closed _ arc (omega arith) (subst (λ (x : ℕ). IsIn has x) (sym same) own))

  pub covers_from : (c : ℕ) → IsIn has c → IsClosedIn m has → CoversFrom g (view t n 0 0) (spot_state g) (λ a. get_or has a false) c
  covers_from c own closed = record {
    own = own;
    uses = used closed;
    begins = λ p low own. subst (λ (b : ℕ). Walks (view t n 0 0) (entry_state (rule_of g p).non) [] b) (sym (state_first g p 0 refl)) rests;
    ends = λ p low own. ends p low;
    leaves = λ p k i low own at leaf. leaf_walks g t n i (place_state g p k) (place_state g p (suc k)) within leaf (leaf_kept g t i (place_state g p k) (place_state g p (suc k)) labels.few kept (((laid p low).places k (outer_low g p k i at)).leaves i at leaf));
    enters = λ p k j s low own at. move_kept (place_state g p k) (entry_state j) (((laid p low).places k (outer_low g p k (Non j s) at)).enters j s at);
    returns = returned;
    groups = λ p k j l r inside low own at. called p k j l r inside low at;
  }
