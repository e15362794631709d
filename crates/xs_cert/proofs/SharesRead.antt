-- How lines of groups that share are read, pair by pair.
use Rattle.std.proofs.Common.{◌≡◌, ◌⊎◌, inl, inr, ℕ, suc, ◌+◌, ◌^◌, ◌≤◌, ◌<◌, min, max, nat_eq, ◌&&◌, ◌||◌, Bool, true, false, List, [], ◌∷◌, ◌++◌, length, map, drop, refl, sym, ap, subst, ◌∙◌, arith, append_assoc, append-nil, codes, eqb-true, eq-eqb}
use Rattle.std.specs.List.{All}
use Rattle.std.proofs.lemmas.List.{map-append}
use Rattle.std.proofs.lemmas.List.Elements.{All-nil, All-cons, All-append, All-head, All-tail, All-weaker}
use Rattle.std.proofs.lemmas.Bool.{cases_lt, cases_eq}
use Rattle.xs_class.proofs.Truth.{and_true}
use Rattle.xs_auto.specs.Nests.{Group}
use Rattle.xs_gram.specs.Grammar.{Grammar}
use Rattle.xs_check_laws.specs.Acceptance.{IsBefore}
use Rattle.xs_cert_lines.specs.Lines.{Lines, ended, written}
use Rattle.xs_cert_lines.specs.Laws.{IsLine}
use Rattle.xs_closed.specs.Rows.{Grid, marked, Marks}
use Rattle.xs_cert_laws.specs.Certificates.{IsFencePair, AreShares, has_pair, is_shared, Shares, heads, share_line}
use Rattle.xs_cert_laws.proofs.Showing.{shares_turned}
use Rattle.xs_cert.specs.declared.place.Place.{Place}
use Rattle.xs_cert.specs.Places.{IsPast, Stand}
use Rattle.xs_cert.specs.Ways.{Ahead, Tail, TailWays, LeadsTo, BlockWays}
use Rattle.xs_cert.specs.Shares.{IsNotBefore, AreFrom, ShareWays, AreSharesRead}
use Rattle.xs_cert_lines.proofs.Feeds.{spaced_line, pairs_once}
use Rattle.xs_cert.proofs.Standing.{past_none, past_then, leads_then, from_ahead, joined}
use Rattle.xs_cert.proofs.Opening.{Open, ways_open, first_line, true_false, begins_share}

-- order of pairs
from_later : (h k a b c d : ℕ) → IsNotBefore h k a b → IsNotBefore a b c d → IsNotBefore h k c d
from_later h k a b c d (inl x) (inl y) = inl (omega arith)
from_later h k a b c d (inl x) (inr y) = inl (omega (arith, y.0))
from_later h k a b c d (inr x) (inl y) = inl (omega (arith, x.0))
from_later h k a b c d (inr x) (inr y) = inr (x.0 ∙ y.0, omega (arith, x.1, y.1))

from_next : (a b c d : ℕ) → IsBefore a b c d → IsNotBefore a (suc b) c d
from_next a b c d (inl x) = inl x
from_next a b c d (inr x) = inr (x.0, omega (arith, x.1))

before_from : (a b c d e f : ℕ) → IsBefore a b c d → IsNotBefore c d e f → IsBefore a b e f
before_from a b c d e f (inl x) (inl y) = inl (omega arith)
before_from a b c d e f (inl x) (inr y) = inl (omega (arith, y.0))
before_from a b c d e f (inr x) (inl y) = inl (omega (arith, x.0))
before_from a b c d e f (inr x) (inr y) = inr (x.0 ∙ y.0, omega (arith, x.1, y.1))

before_next : (a b c d : ℕ) → IsNotBefore a (suc b) c d → IsBefore a b c d
before_next a b c d (inl x) = inl x
before_next a b c d (inr x) = inr (x.0, omega (arith, x.1))

module _ (nest : List Group) where
  pub are_from_later : (h k a b : ℕ) (ss : List (ℕ × ℕ)) → IsNotBefore h k a b → AreFrom nest a b ss → AreFrom nest h k ss
  are_from_later h k a b [] f o = tt
  are_from_later h k a b (s ∷ ss) f o = (o.0, from_later h k a b s.0 s.1 f o.1, o.2)

  are_from_append : (h k a b : ℕ) (xs ys : List (ℕ × ℕ)) → IsNotBefore h k a b → AreFrom nest h k xs → All (λ s. IsBefore s.0 s.1 a b) xs → AreFrom nest a b ys → AreFrom nest h k (xs ++ ys)
  are_from_append h k a b [] ys f o before o2 = are_from_later h k a b ys f o2
  are_from_append h k a b (s ∷ xs) ys f o before o2 =
      (o.0, o.1, are_from_append s.0 (suc s.1) a b xs ys (from_next s.0 s.1 a b (All-head (λ t. IsBefore t.0 t.1 a b) s xs before)) o.2 (All-tail (λ t. IsBefore t.0 t.1 a b) s xs before) o2)

  -- as the definition of a certificate has it
  pub shares_are_from : (ss : List (ℕ × ℕ)) → AreShares nest ss → AreFrom nest 0 0 ss
  shares_are_from [] o = tt
  shares_are_from (s ∷ []) o = (o, origin s, tt)
    where
      origin : (s : ℕ × ℕ) → IsNotBefore 0 0 s.0 s.1
      origin s = elim (cases_lt 0 s.0) [ inl x ↦ inl x | inr x ↦ inr (omega arith, omega arith) ]
  shares_are_from (s ∷ t ∷ ss) o =
      let later = shares_are_from (t ∷ ss) o.2 in
      (o.0, elim (cases_lt 0 s.0) [ inl x ↦ inl x | inr x ↦ inr (omega arith, omega arith) ], (later.0, from_next s.0 s.1 t.0 t.1 o.1, later.2))

  pub are_shares : (h k : ℕ) (ss : List (ℕ × ℕ)) → AreFrom nest h k ss → AreShares nest ss
  are_shares h k [] o = tt
  are_shares h k (s ∷ []) o = o.0
  are_shares h k (s ∷ t ∷ ss) o = (o.0, before_next s.0 s.1 t.0 t.1 o.2.1, are_shares s.0 (suc s.1) (t ∷ ss) o.2)

  -- there is no pair past the last group
  pub none_past : (k : ℕ) (ss : List (ℕ × ℕ)) → AreFrom nest (length nest) k ss → ss ≡ []
  none_past k [] o = refl
  none_past k (s ∷ ss) o = absurd (elim o.1 [ inl x ↦ omega (arith, x, o.0.order, o.0.within) | inr x ↦ omega (arith, x.0, o.0.order, o.0.within) ])

  -- nor one of a group with one past the last
  row_past : (h : ℕ) (ss : List (ℕ × ℕ)) → AreFrom nest h (length nest) ss → AreFrom nest (suc h) (suc h) ss
  row_past h [] o = tt
  row_past h (s ∷ ss) o = (
    o.0,
    elim o.1 [
      | inl x ↦ elim (cases_lt (suc h) s.0) [ inl y ↦ inl y | inr y ↦ inr (omega arith, omega (arith, x, o.0.order)) ]
      | inr x ↦ absurd (omega (arith, x.1, o.0.within))
    ],
    o.2,
  )

-- marks of pairs
or_assoc : (x y z : Bool) → ((x || y) || z) ≡ (x || (y || z))
or_assoc true y z = refl
or_assoc false y z = refl

or_none : (x : Bool) → (x || false) ≡ x
or_none true = refl
or_none false = refl

has_append : (xs ys : List (ℕ × ℕ)) (h k : ℕ) → has_pair (xs ++ ys) h k ≡ (has_pair xs h k || has_pair ys h k)
has_append [] ys h k = refl
has_append (s ∷ xs) ys h k = ap (λ (x : Bool). (nat_eq s.0 h && nat_eq s.1 k) || x) (has_append xs ys h k) ∙ sym (or_assoc (nat_eq s.0 h && nat_eq s.1 k) (has_pair xs h k) (has_pair ys h k))

same_is_shared : (h k : ℕ) → h ≤ k → is_shared ((h, k) ∷ []) h k ≡ true
same_is_shared h k le =
    let low : h ≡ min h k = omega arith in
    let high : k ≡ max h k = omega arith in
    ap (λ (x : Bool). (x && nat_eq k (max h k)) || false) (eq-eqb h (min h k) low) ∙ ap (λ (x : Bool). x || false) (eq-eqb k (max h k) high)

shared_only : (h k a b : ℕ) → is_shared ((h, k) ∷ []) a b ≡ true → (h ≡ min a b) × (k ≡ max a b)
shared_only h k a b e =
    let both = and_true (nat_eq h (min a b)) (nat_eq k (max a b)) (sym (or_none (nat_eq h (min a b) && nat_eq k (max a b))) ∙ e) in
    (eqb-true h (min a b) both.0, eqb-true k (max a b) both.1)

pub marks_both : (old mid new : Grid) (h k : ℕ) → h ≤ k → Marks old mid h k → Marks mid new k h → (c d : ℕ) → marked new c d ≡ (marked old c d || is_shared ((h, k) ∷ []) c d)
marks_both old mid new h k le first second c d = by_shared (is_shared ((h, k) ∷ []) c d) refl
  where
    or_true : (x : Bool) → (x || true) ≡ true
    or_true true = refl
    or_true false = refl

    there : marked new h k ≡ true
    there = elim (cases_eq h k) [
      | inl e ↦ ap (λ (x : ℕ). marked new x k) e ∙ ap (λ (x : ℕ). marked new k x) (sym e) ∙ second.there
      | inr e ↦ second.others h k (λ x y. e x) ∙ first.there
    ]

    by_place : (c ≡ h) × (d ≡ k) ⊎ ((c ≡ k) × (d ≡ h)) → marked new c d ≡ true
    by_place (inl e) = ap (λ (x : ℕ). marked new x d) e.0 ∙ ap (λ (x : ℕ). marked new h x) e.1 ∙ there
    by_place (inr e) = ap (λ (x : ℕ). marked new x d) e.0 ∙ ap (λ (x : ℕ). marked new k x) e.1 ∙ second.there

    placed : (h ≡ min c d) × (k ≡ max c d) → (c ≡ h) × (d ≡ k) ⊎ ((c ≡ k) × (d ≡ h))
    placed e = elim (cases_lt d c) [ inl x ↦ inr (omega (arith, e.0, e.1), omega (arith, e.0, e.1)) | inr x ↦ inl (omega (arith, e.0, e.1), omega (arith, e.0, e.1)) ]

    not_there : (x : Bool) → x ≡ false → x ≡ true → ⊥
    not_there x e t = true_false (sym t ∙ e)

    by_shared : (x : Bool) → is_shared ((h, k) ∷ []) c d ≡ x → marked new c d ≡ (marked old c d || is_shared ((h, k) ∷ []) c d)
    by_shared true e = by_place (placed (shared_only h k c d e)) ∙ sym (ap (λ (x : Bool). marked old c d || x) e ∙ or_true (marked old c d))
    by_shared false e =
        let not_first : c ≡ h → d ≡ k → ⊥ = λ x y. not_there (is_shared ((h, k) ∷ []) c d) e (ap (λ (z : ℕ). is_shared ((h, k) ∷ []) z d) x ∙ ap (λ (z : ℕ). is_shared ((h, k) ∷ []) h z) y ∙ same_is_shared h k le) in
        let not_second : c ≡ k → d ≡ h → ⊥ = λ x y. not_there (is_shared ((h, k) ∷ []) c d) e (ap (λ (z : ℕ). is_shared ((h, k) ∷ []) z d) x ∙ ap (λ (z : ℕ). is_shared ((h, k) ∷ []) k z) y ∙ shares_turned ((h, k) ∷ []) k h ∙ same_is_shared h k le) in
        second.others c d not_second ∙ first.others c d not_first ∙ sym (ap (λ (x : Bool). marked old c d || x) e ∙ or_none (marked old c d))

module _ {nest : List Group} {bytes : List ℕ} where
  pub no_shares : (p : Place) (h k a b : ℕ) (z : Grid) → p.byte ≤ length bytes
      → ((g : Grammar) (tail : Tail) (done : List (ℕ × ℕ)) → LeadsTo bytes p (ShareWays g nest (TailWays tail) done h k) p (ShareWays g nest (TailWays tail) (done ++ []) a b))
      → AreSharesRead nest bytes p h k p a b z z
  no_shares p h k a b z within leads = record {
    shares = [];
    ordered = tt;
    before = All-nil (λ s. IsBefore s.0 s.1 a b);
    past = past_none p within;
    high = refl;
    wide = refl;
    marks = λ c d. sym (or_none (marked z c d));
    leads = leads;
  }

  -- where no pair from the first on comes before the second
  pub shares_same : (p : Place) (h k a b : ℕ) (z : Grid) → p.byte ≤ length bytes → ((ss : List (ℕ × ℕ)) → AreFrom nest h k ss → AreFrom nest a b ss) → AreSharesRead nest bytes p h k p a b z z
  shares_same p h k a b z within same = no_shares p h k a b z within (λ g tail done j w. inr (
    j,
    refl,
    record {
      lines = w.lines;
      rest = w.rest;
      way = record {
        shares = w.way.shares;
        later = w.way.later;
        count = w.way.count;
        ordered = same w.way.shares w.way.ordered;
        way = subst (λ (ss : List (ℕ × ℕ)). BlockWays g nest (Shares (ss ++ w.way.shares)) (TailWays tail) (heads g nest (ss ++ w.way.shares)) w.way.later w.rest w.way.count) (sym (append-nil done)) w.way.way;
        is = w.way.is;
        counts = w.way.counts;
      };
      is = w.is;
    },
  ))

  pub shares_start : (p : Place) (h k : ℕ) (z : Grid) → p.byte ≤ length bytes → AreSharesRead nest bytes p h k p h k z z
  shares_start p h k z within = shares_same p h k h k z within (λ ss o. o)

  pub shares_row : (p : Place) (h : ℕ) (z : Grid) → p.byte ≤ length bytes → AreSharesRead nest bytes p h (length nest) p (suc h) (suc h) z z
  shares_row p h z within = shares_same p h (length nest) (suc h) (suc h) z within (row_past nest h)

  pub shares_then : {p q r : Place} {h k a b c d : ℕ} {x y z : Grid} → IsNotBefore h k a b → IsNotBefore a b c d → AreSharesRead nest bytes p h k q a b x y → AreSharesRead nest bytes q a b r c d y z → AreSharesRead nest bytes p h k r c d x z
  shares_then {p} {q} {r} {h} {k} {a} {b} {c} {d} {x} {y} {z} first second m n = record {
    shares = m.shares ++ n.shares;
    ordered = are_from_append nest h k a b m.shares n.shares first m.ordered m.before n.ordered;
    before = All-append (λ s. IsBefore s.0 s.1 c d) m.shares n.shares (All-weaker (λ s. IsBefore s.0 s.1 a b) (λ s. IsBefore s.0 s.1 c d) (λ s e. before_from s.0 s.1 a b c d e second) m.shares m.before) n.before;
    past = subst (λ (ls : Lines). IsPast bytes p ls r) (sym (map-append share_line m.shares n.shares)) (past_then m.past n.past);
    high = n.high ∙ m.high;
    wide = n.wide ∙ m.wide;
    marks = λ e f. n.marks e f ∙ ap (λ (t : Bool). t || is_shared n.shares e f) (m.marks e f) ∙ or_assoc (marked x e f) (is_shared m.shares e f) (is_shared n.shares e f) ∙ ap (λ (t : Bool). marked x e f || t) (sym (has_append m.shares n.shares (min e f) (max e f)));
    leads = λ g tail done. subst (λ (ss : List (ℕ × ℕ)). LeadsTo bytes p (ShareWays g nest (TailWays tail) done h k) r (ShareWays g nest (TailWays tail) ss c d)) (append_assoc done m.shares n.shares)
        (leads_then p q r (ShareWays g nest (TailWays tail) done h k) (ShareWays g nest (TailWays tail) (done ++ m.shares) a b) (ShareWays g nest (TailWays tail) ((done ++ m.shares) ++ n.shares) c d) (m.leads g tail done) (n.leads g tail (done ++ m.shares)) (omega (arith, n.past.count)));
  }

  -- the line of a pair that does not stand there, or of groups of two fences
  pub shares_skip : (p : Place) (h k : ℕ) (z : Grid) → p.byte ≤ length bytes → (IsFencePair nest h k → Stand bytes p (share_line (h, k) ∷ []) → ⊥) → AreSharesRead nest bytes p h k p h (suc k) z z
  shares_skip p h k z within none = no_shares p h k h (suc k) z within (λ g tail done j w. inr (
    j,
    refl,
    record {
      lines = w.lines;
      rest = w.rest;
      way = record {
        shares = w.way.shares;
        later = w.way.later;
        count = w.way.count;
        ordered = past_one w.way.shares w.way.later w.way.ordered w.rest (w.is ∙ ap (λ (ls : Lines). written ls ++ w.rest) w.way.is);
        way = subst (λ (ss : List (ℕ × ℕ)). BlockWays g nest (Shares (ss ++ w.way.shares)) (TailWays tail) (heads g nest (ss ++ w.way.shares)) w.way.later w.rest w.way.count) (sym (append-nil done)) w.way.way;
        is = w.way.is;
        counts = w.way.counts;
      };
      is = w.is;
    },
  ))
    where
      past_one : (ss : List (ℕ × ℕ)) (later : Lines) → AreFrom nest h k ss → (rest : List ℕ) → drop p.byte bytes ≡ written (map share_line ss ++ later) ++ rest → AreFrom nest h (suc k) ss
      past_one [] later o rest e = tt
      past_one (s ∷ ss) later o rest e = (
        o.0,
        elim o.1 [
          | inl x ↦ inl x
          | inr x ↦ elim (cases_lt k s.1) [
            | inl y ↦ inr (x.0, omega arith)
            | inr y ↦ absurd (by_same x.0 (omega (arith, x.1)))
          ]
        ],
        o.2,
      )
        where
          there : Stand bytes p (share_line s ∷ [])
          there = record { rest = written (map share_line ss ++ later) ++ rest; is = e ∙ joined (share_line s ∷ []) (map share_line ss ++ later) rest }

          by_same : h ≡ s.0 → k ≡ s.1 → ⊥
          by_same x y = none (subst (λ (a : ℕ). IsFencePair nest a k) (sym x) (subst (λ (b : ℕ). IsFencePair nest s.0 b) (sym y) o.0)) (subst (λ (a : ℕ). Stand bytes p (share_line (a, k) ∷ [])) (sym x) (subst (λ (b : ℕ). Stand bytes p (share_line (s.0, b) ∷ [])) (sym y) there))

  -- the line of a pair that stands there
  pub shares_one : (p q : Place) (h k : ℕ) (old mid new : Grid) → length nest < 2 ^ 32 → IsFencePair nest h k → IsPast bytes p (share_line (h, k) ∷ []) q → Marks old mid h k → Marks mid new k h → AreSharesRead nest bytes p h k q h (suc k) old new
  shares_one p q h k old mid new few pair past first second = record {
    shares = (h, k) ∷ [];
    ordered = (pair, inr (refl, omega arith), tt);
    before = All-cons (λ s. IsBefore s.0 s.1 h (suc k)) (h, k) [] (inr (refl, omega arith)) (All-nil (λ s. IsBefore s.0 s.1 h (suc k)));
    past = past;
    high = second.high ∙ first.high;
    wide = second.wide ∙ first.wide;
    marks = marks_both old mid new h k pair.order first second;
    leads = λ g tail done j w. by_shares g tail done j w.lines w.rest w.way.shares w.way.later w.way.count w.way.ordered w.way.way (w.is ∙ ap (λ (ls : Lines). written ls ++ w.rest) w.way.is) w.way.counts;
  }
    where
      line_of : (s : ℕ × ℕ) → IsLine (share_line s)
      line_of s = spaced_line (codes "shared") (s.0 ∷ s.1 ∷ []) refl

      -- what stands there begins with the line of the pair
      begins : (line : List ℕ) (more : Lines) (rest : List ℕ) → IsLine line → drop p.byte bytes ≡ written (line ∷ more) ++ rest → share_line (h, k) ≡ line
      begins line more rest is e = (first_line (share_line (h, k)) line (drop q.byte bytes) (written more ++ rest) (line_of (h, k)) is (sym (joined_one (share_line (h, k)) (drop q.byte bytes)) ∙ sym past.from.is ∙ e ∙ append_assoc (ended line) (written more) rest)).0
        where
          joined_one : (l x : List ℕ) → written (l ∷ []) ++ x ≡ ended l ++ x
          joined_one l x = ap (λ (z : List ℕ). z ++ x) (append-nil (ended l))

      by_first : (g : Grammar) (tail : Tail) (done : List (ℕ × ℕ)) (j : ℕ) (rest : List ℕ) (later : Lines) → Open later j → drop p.byte bytes ≡ written later ++ rest → j ≡ 0
      by_first g tail done j rest [] o e = o
      by_first g tail done j rest (l ∷ ls) o e = absurd (true_false (ap begins_share (begins l ls rest o.line e) ∙ o.other))

      by_shares : (g : Grammar) (tail : Tail) (done : List (ℕ × ℕ)) (j : ℕ) (ls : Lines) (rest : List ℕ) (ss : List (ℕ × ℕ)) (later : Lines) (count : ℕ) → AreFrom nest h k ss → BlockWays g nest (Shares (done ++ ss)) (TailWays tail) (heads g nest (done ++ ss)) later rest count → drop p.byte bytes ≡ written (map share_line ss ++ later) ++ rest → j ≡ length ss + count
          → (p.lines + j ≤ q.lines) ⊎ ((i : ℕ) × (p.lines + j ≡ q.lines + i) × Ahead bytes q.byte (ShareWays g nest (TailWays tail) (done ++ (h, k) ∷ []) h (suc k)) i)
      by_shares g tail done j ls rest [] later count o way e n = inl (omega (arith, by_first g tail done count rest later (ways_open tail way) e, n, past.count))
      by_shares g tail done j ls rest (s ∷ ss) later count o way e n =
          let same = pairs_once (codes "shared") h k s.0 s.1 (omega (arith, pair.order, pair.within)) (omega (arith, pair.within)) (omega (arith, o.0.order, o.0.within)) (omega (arith, o.0.within)) (begins (share_line s) (map share_line ss ++ later) rest (line_of s) e) in
          let pairs : done ++ s ∷ ss ≡ (done ++ (h, k) ∷ []) ++ ss = ap (λ (x : ℕ). done ++ (x, s.1) ∷ ss) (sym same.0) ∙ ap (λ (x : ℕ). done ++ (h, x) ∷ ss) (sym same.1) ∙ sym (append_assoc done ((h, k) ∷ []) ss) in
          let lines : share_line s ∷ (map share_line ss ++ later) ≡ (share_line (h, k) ∷ []) ++ (map share_line ss ++ later) = ap (λ (l : List ℕ). l ∷ (map share_line ss ++ later)) (sym (begins (share_line s) (map share_line ss ++ later) rest (line_of s) e)) in
          inr (
            length ss + count,
            omega (arith, n, past.count),
            record {
              lines = map share_line ss ++ later;
              rest = rest;
              way = record {
                shares = ss;
                later = later;
                count = count;
                ordered = subst (λ (x : ℕ). AreFrom nest x (suc k) ss) (sym same.0) (subst (λ (x : ℕ). AreFrom nest s.0 (suc x) ss) (sym same.1) o.2);
                way = subst (λ (xs : List (ℕ × ℕ)). BlockWays g nest (Shares xs) (TailWays tail) (heads g nest xs) later rest count) pairs way;
                is = refl;
                counts = refl;
              };
              is = from_ahead past.from (map share_line ss ++ later) rest (e ∙ ap (λ (ks : Lines). written ks ++ rest) lines);
            },
          )

-- the steps of the loops
pub row_end : {nest : List Group} {bytes : List ℕ} {p q : Place} {x y : Grid} (h k : ℕ) → h < length nest → k ≡ length nest → q.byte ≤ length bytes → AreSharesRead nest bytes p h h q h k x y → AreSharesRead nest bytes p h h q (suc h) (suc h) x y
row_end {nest} {bytes} {p} {q} {x} {y} h k lt e within m = shares_then (inr (refl, omega arith)) (inl (omega arith)) (subst (λ (l : ℕ). AreSharesRead nest bytes p h h q h l x y) e m) (shares_row q h y within)

module _ {nest : List Group} {bytes : List ℕ} {p q r : Place} {x y z : Grid} where
  pub pair_next : (h k : ℕ) → h ≤ k → AreSharesRead nest bytes p h h q h k x y → AreSharesRead nest bytes q h k r h (suc k) y z → AreSharesRead nest bytes p h h r h (k + 1) x z
  pair_next h k le m n = shares_then (inr (refl, le)) (inr (refl, omega arith)) m (subst (λ (l : ℕ). AreSharesRead nest bytes q h k r h l y z) suc_is n)
    where
      suc_is : suc k ≡ k + 1
      suc_is = omega arith

  pub row_next : (h : ℕ) → AreSharesRead nest bytes p 0 0 q h h x y → AreSharesRead nest bytes q h h r (suc h) (suc h) y z → AreSharesRead nest bytes p 0 0 r (h + 1) (h + 1) x z
  row_next h m n = subst (λ (l : ℕ). AreSharesRead nest bytes p 0 0 r l l x z) suc_is (shares_then from_origin (inl (omega arith)) m n)
    where
      suc_is : suc h ≡ h + 1
      suc_is = omega arith

      from_origin : IsNotBefore 0 0 h h
      from_origin = elim (cases_lt 0 h) [ inl y ↦ inl y | inr y ↦ inr (omega arith, omega arith) ]
