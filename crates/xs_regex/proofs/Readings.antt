-- The reader finds what the grammar has, and nothing else: so a pattern has at most one reading.
use Rattle.std.proofs.Common.{◌≡◌, ◌≢◌, ◌⊎◌, ◌∙◌, ℕ, zero, suc, ◌+◌, ◌*◌, ◌≤◌, Bool, true, false, ◌==◌, List, [], ◌∷◌, length, refl, sym, ap, subst, inl, inr, arith, None, Some, if◌then◌else◌}
use Rattle.std.proofs.lemmas.Bool.Decides.{eqb_tells}
use Rattle.std.specs.declared.option.Option.{Option}
use Rattle.xs_class.proofs.Truth.{if_false}
use Rattle.xs_class.proofs.Lists.{some_pair}
use Rattle.xs_regex.specs.Characters.{Sort, set_at, counts_at}
use Rattle.xs_regex.specs.Pattern.{Tree, nothing, class, both, either, any, times, Stops, Ends, IsPlainNext, IsCounted, once, star, plus, question, braces, IsRegex, one_sequence, bar, IsSequence, no_piece, pieces, ArePieces, last_piece, next_piece, IsPiece, piece, IsAtom, set, group, IsReading}
use Rattle.xs_regex.specs.Scan.{stops, braced, count_after, counted, class_of, closed, with_tree, pieces_after, regex_after, regex_at, pieces_at, atom_at}
use Rattle.xs_regex.proofs.Scanning.{sequence_shorter, piece_shorter}

stops_true : (cs : List ℕ) → Stops cs → stops cs ≡ true
stops_true [] s = refl
stops_true (c ∷ cs) (inl e) = rw e refl
stops_true (c ∷ cs) (inr e) = rw e refl

ends_stops : (cs : List ℕ) → Ends cs → Stops cs
ends_stops [] e = tt
ends_stops (c ∷ cs) e = inr e

-- a set does not begin with a bar or a parenthesis
none_here : {A : Type 0} {o : Option A} {x : A} → o ≡ None → o ≡ Some x → ⊥
none_here e f = cc

set_not : (k : ℕ) (cs rest : List ℕ) (s : Sort) (c : ℕ) → set_at (k ∷ cs) ≡ None → set_at (c ∷ cs) ≡ Some (s, rest) → (c == k) ≡ false
set_not k cs rest s c none is = elim (eqb_tells c k) [
  | inl h ↦ absurd (none_here (ap (λ x. set_at (x ∷ cs)) h.1 ∙ none) is)
  | inr h ↦ h.0
]

set_begins : (cs rest : List ℕ) (s : Sort) → set_at cs ≡ Some (s, rest) → stops cs ≡ false
set_begins [] rest s is = absurd (none_here refl is)
set_begins (c ∷ cs) rest s is = rw (set_not 124 cs rest s c refl is, set_not 41 cs rest s c refl is) refl

atom_begins : {d : ℕ} {cs rest : List ℕ} {t : Tree} → IsAtom d cs t rest → stops cs ≡ false
atom_begins {cs = cs} {rest = rest} (set s is) = set_begins cs rest s is
atom_begins (group inner e r) = rw e refl

piece_begins : {d : ℕ} {cs rest : List ℕ} {t : Tree} → IsPiece d cs t rest → stops cs ≡ false
piece_begins (piece t left a c) = atom_begins a

pieces_begin : {d : ℕ} {cs rest : List ℕ} {t : Tree} → ArePieces d cs t rest → stops cs ≡ false
pieces_begin (last_piece p) = piece_begins p
pieces_begin (next_piece left p q) = piece_begins p

-- the count after a tree is read
not_here : (c k : ℕ) → c ≢ k → (c == k) ≡ false
not_here c k n = elim (eqb_tells c k) [ inl h ↦ absurd (n h.1) | inr h ↦ h.0 ]

read_counted : {t u : Tree} {cs rest : List ℕ} → IsCounted t cs u rest → count_after t cs ≡ Some (u, rest)
read_counted {t} {cs = cs} (once p) = plain cs p
  where
    plain : (cs : List ℕ) → IsPlainNext cs → count_after t cs ≡ Some (t, cs)
    plain [] p = refl
    plain (c ∷ cs) p = rw (not_here c 42 p.0, not_here c 43 p.1, not_here c 63 p.2, not_here c 123 p.3) refl
read_counted (star e) = rw e refl
read_counted (plus e) = rw e refl
read_counted (question e) = rw e refl
read_counted {t} (braces least most inner e is) = rw e (ap (λ o. braced t o) is)

read_set : (n d : ℕ) (cs rest : List ℕ) (s : Sort) → set_at cs ≡ Some (s, rest) → atom_at (suc n) d cs ≡ Some (class s, rest)
read_set n d [] rest s is = absurd (none_here refl is)
read_set n zero (c ∷ cs) rest s is = ap (λ o. class_of o) is
read_set n (suc d) (c ∷ cs) rest s is = if_false (c == 40) (closed (regex_at n d cs)) (class_of (set_at (c ∷ cs))) (set_not 40 cs rest s c refl is) ∙ ap (λ o. class_of o) is

after_end : (t : Tree) (rest : List ℕ) (f : List ℕ → Option (Tree × List ℕ)) → Ends rest → regex_after (Some (t, rest)) f ≡ Some (t, rest)
after_end t [] f e = refl
after_end t (c ∷ rest) f e = rw e refl

mutual
  read_regex : {d : ℕ} {t : Tree} {cs rest : List ℕ} (n : ℕ) → 3 * length cs + 3 ≤ n → IsRegex d cs t rest → Ends rest → regex_at n d cs ≡ Some (t, rest)
  read_regex zero l r e = absurd (omega arith)
  read_regex {d} {t} {cs} {rest} (suc n) l (one_sequence s) e = ap (λ o. regex_after o (λ left. regex_at n d left)) (read_sequence n (omega arith) s (ends_stops rest e)) ∙ after_end t rest (λ left. regex_at n d left) e
  read_regex {d} (suc n) l (bar {t = t} left s r) e = ap (λ o. regex_after o (λ left. regex_at n d left)) (read_sequence n (omega arith) s (inl refl)) ∙ ap (λ o. with_tree (λ u. either t u) o) (read_regex n (omega (arith, sequence_shorter s)) r e)

  read_sequence : {d : ℕ} {t : Tree} {cs rest : List ℕ} (n : ℕ) → 3 * length cs + 2 ≤ n → IsSequence d cs t rest → Stops rest → (if stops cs then Some (nothing, cs) else pieces_at n d cs) ≡ Some (t, rest)
  read_sequence {cs = cs} n l no_piece s = rw (stops_true cs s) refl
  read_sequence n l (pieces p) s = rw (pieces_begin p) (read_pieces n l p s)

  read_pieces : {d : ℕ} {t : Tree} {cs rest : List ℕ} (n : ℕ) → 3 * length cs + 2 ≤ n → ArePieces d cs t rest → Stops rest → pieces_at n d cs ≡ Some (t, rest)
  read_pieces zero l p s = absurd (omega arith)
  read_pieces {d} {t} {rest = rest} (suc n) l (last_piece p) s = ap (λ o. pieces_after o (λ left. pieces_at n d left)) (read_piece n (omega arith) p) ∙ rw (stops_true rest s) refl
  read_pieces {d} (suc n) l (next_piece {t = t} left p q) s = ap (λ o. pieces_after o (λ left. pieces_at n d left)) (read_piece n (omega arith) p) ∙ rw (pieces_begin q) (ap (λ o. with_tree (λ u. both t u) o) (read_pieces n (omega (arith, piece_shorter p)) q s))

  read_piece : {d : ℕ} {t : Tree} {cs rest : List ℕ} (n : ℕ) → 3 * length cs + 1 ≤ n → IsPiece d cs t rest → counted (atom_at n d cs) ≡ Some (t, rest)
  read_piece n l (piece t left a c) = ap (λ o. counted o) (read_atom n l a) ∙ read_counted c

  read_atom : {d : ℕ} {t : Tree} {cs rest : List ℕ} (n : ℕ) → 3 * length cs + 1 ≤ n → IsAtom d cs t rest → atom_at n d cs ≡ Some (t, rest)
  read_atom zero l a = absurd (omega arith)
  read_atom {d} {cs = cs} {rest = rest} (suc n) l (set s is) = read_set n d cs rest s is
  read_atom (suc n) l (group inner e r) = rw e (ap (λ o. closed o) (read_regex n (omega (arith, ap (λ (x : List ℕ). length x) e)) r refl))

-- what is found is of the grammar
split_if : {A : Type 0} (b : Bool) (x y z : A) → (if b then x else y) ≡ z → ((b ≡ true) × (x ≡ z)) ⊎ ((b ≡ false) × (y ≡ z))
split_if true x y z e = inl (refl, e)
split_if false x y z e = inr (refl, e)

is_same : (c k : ℕ) → (c == k) ≡ true → c ≡ k
is_same c k e = elim (eqb_tells c k) [ inl h ↦ h.1 | inr h ↦ absurd (true_false e h.0) ]
  where
    true_false : {b : Bool} → b ≡ true → b ≡ false → ⊥
    true_false e f = cc

is_other : (c k : ℕ) → (c == k) ≡ false → c ≢ k
is_other c k e = elim (eqb_tells c k) [ inl h ↦ absurd (true_false h.0 e) | inr h ↦ h.1 ]
  where
    true_false : {b : Bool} → b ≡ true → b ≡ false → ⊥
    true_false e f = cc

with_found : (whole : Tree → Tree) (o : Option (Tree × List ℕ)) (t : Tree) (rest : List ℕ) → with_tree whole o ≡ Some (t, rest) → (u : Tree) × (o ≡ Some (u, rest)) × (whole u ≡ t)
with_found whole None t rest e = absurd (none_here refl e)
with_found whole (Some (u, left)) t rest e = let p = some_pair (whole u) t left rest e in (u, ap (λ (x : List ℕ). Some (u, x)) p.1, p.0)

found_counted : (t u : Tree) (cs rest : List ℕ) → count_after t cs ≡ Some (u, rest) → IsCounted t cs u rest
found_counted t u [] rest e = let p = some_pair t u [] rest e in subst (λ x. IsCounted t [] x rest) p.0 (subst (λ x. IsCounted t [] t x) p.1 (once tt))
found_counted t u (c ∷ cs) rest e = elim (split_if (c == 42) _ _ _ e) [
  | inl h ↦ let p = some_pair (any t) u cs rest h.1 in subst (λ x. IsCounted t (c ∷ cs) x rest) p.0 (star (front c 42 cs rest (is_same c 42 h.0) p.1))
  | inr g ↦ elim (split_if (c == 43) _ _ _ g.1) [
    | inl h ↦ let p = some_pair (times t 1 None) u cs rest h.1 in subst (λ x. IsCounted t (c ∷ cs) x rest) p.0 (plus (front c 43 cs rest (is_same c 43 h.0) p.1))
    | inr i ↦ elim (split_if (c == 63) _ _ _ i.1) [
      | inl h ↦ let p = some_pair (times t 0 (Some 1)) u cs rest h.1 in subst (λ x. IsCounted t (c ∷ cs) x rest) p.0 (question (front c 63 cs rest (is_same c 63 h.0) p.1))
      | inr j ↦ elim (split_if (c == 123) _ _ _ j.1) [
        | inl h ↦ in_braces (counts_at cs) refl (is_same c 123 h.0) h.1
        | inr k ↦ let p = some_pair t u (c ∷ cs) rest k.1 in
            subst (λ x. IsCounted t (c ∷ cs) x rest) p.0 (subst (λ x. IsCounted t (c ∷ cs) t x) p.1 (once (is_other c 42 g.0, is_other c 43 i.0, is_other c 63 j.0, is_other c 123 k.0)))
      ]
    ]
  ]
]
  where
    front : (c k : ℕ) (cs rest : List ℕ) → c ≡ k → cs ≡ rest → c ∷ cs ≡ k ∷ rest
    front c k cs rest e f = cc

    in_braces : (o : Option ((ℕ × Option ℕ) × List ℕ)) → counts_at cs ≡ o → c ≡ 123 → braced t o ≡ Some (u, rest) → IsCounted t (c ∷ cs) u rest
    in_braces None is k e = absurd (none_here refl e)
    in_braces (Some ((least, most), left)) is k e =
        let p = some_pair (times t least most) u left rest e in
        subst (λ x. IsCounted t (c ∷ cs) x rest) p.0 (braces least most cs (ap (λ x. x ∷ cs) k) (is ∙ ap (λ (x : List ℕ). Some ((least, most), x)) p.1))

found_piece : (d : ℕ) (cs : List ℕ) (o : Option (Tree × List ℕ)) (t : Tree) (rest : List ℕ) → ((u : Tree) (left : List ℕ) → o ≡ Some (u, left) → IsAtom d cs u left) → counted o ≡ Some (t, rest) → IsPiece d cs t rest
found_piece d cs None t rest f e = absurd (none_here refl e)
found_piece d cs (Some (u, left)) t rest f e = piece u left (f u left refl) (found_counted u t left rest e)

found_pieces : (d : ℕ) (cs : List ℕ) (o : Option (Tree × List ℕ)) (others : List ℕ → Option (Tree × List ℕ)) (t : Tree) (rest : List ℕ) → ((u : Tree) (left : List ℕ) → o ≡ Some (u, left) → IsPiece d cs u left) → ((left : List ℕ) (u : Tree) (rest : List ℕ) → others left ≡ Some (u, rest) → ArePieces d left u rest) → pieces_after o others ≡ Some (t, rest) → ArePieces d cs t rest
found_pieces d cs None others t rest f g e = absurd (none_here refl e)
found_pieces d cs (Some (u, left)) others t rest f g e = elim (split_if (stops left) _ _ _ e) [
  | inl h ↦ let p = some_pair u t left rest h.1 in subst (λ x. ArePieces d cs x rest) p.0 (subst (λ x. ArePieces d cs u x) p.1 (last_piece (f u left refl)))
  | inr h ↦ let w = with_found (λ v. both u v) (others left) t rest h.1 in subst (λ x. ArePieces d cs x rest) w.2 (next_piece left (f u left refl) (g left w.0 rest w.1))
]

found_after : (d : ℕ) (cs : List ℕ) (o : Option (Tree × List ℕ)) (others : List ℕ → Option (Tree × List ℕ)) (t : Tree) (rest : List ℕ) → ((u : Tree) (left : List ℕ) → o ≡ Some (u, left) → IsSequence d cs u left) → ((left : List ℕ) (u : Tree) (rest : List ℕ) → others left ≡ Some (u, rest) → IsRegex d left u rest) → regex_after o others ≡ Some (t, rest) → IsRegex d cs t rest
found_after d cs None others t rest f g e = absurd (none_here refl e)
found_after d cs (Some (u, [])) others t rest f g e = let p = some_pair u t [] rest e in subst (λ x. IsRegex d cs x rest) p.0 (subst (λ x. IsRegex d cs u x) p.1 (one_sequence (f u [] refl)))
found_after d cs (Some (u, c ∷ left)) others t rest f g e = elim (split_if (c == 124) _ _ _ e) [
  | inl h ↦
      let w = with_found (λ v. either u v) (others left) t rest h.1 in
      subst (λ x. IsRegex d cs x rest) w.2 (bar left (subst (λ x. IsSequence d cs u (x ∷ left)) (is_same c 124 h.0) (f u (c ∷ left) refl)) (g left w.0 rest w.1))
  | inr h ↦ let p = some_pair u t (c ∷ left) rest h.1 in subst (λ x. IsRegex d cs x rest) p.0 (subst (λ x. IsRegex d cs u x) p.1 (one_sequence (f u (c ∷ left) refl)))
]

found_sequence : (d : ℕ) (cs : List ℕ) (o : Option (Tree × List ℕ)) (t : Tree) (rest : List ℕ) → ((t : Tree) (rest : List ℕ) → o ≡ Some (t, rest) → ArePieces d cs t rest) → (if stops cs then Some (nothing, cs) else o) ≡ Some (t, rest) → IsSequence d cs t rest
found_sequence d cs o t rest f e = elim (split_if (stops cs) _ _ _ e) [
  | inl h ↦ let p = some_pair nothing t cs rest h.1 in subst (λ x. IsSequence d cs x rest) p.0 (subst (λ x. IsSequence d cs nothing x) p.1 no_piece)
  | inr h ↦ pieces (f t rest h.1)
]

found_class : (d : ℕ) (cs : List ℕ) (o : Option (Sort × List ℕ)) (t : Tree) (rest : List ℕ) → set_at cs ≡ o → class_of o ≡ Some (t, rest) → IsAtom d cs t rest
found_class d cs None t rest is e = absurd (none_here refl e)
found_class d cs (Some (s, left)) t rest is e = let p = some_pair (class s) t left rest e in subst (λ x. IsAtom d cs x rest) p.0 (set s (is ∙ ap (λ (x : List ℕ). Some (s, x)) p.1))

found_group : (d : ℕ) (c : ℕ) (cs : List ℕ) (o : Option (Tree × List ℕ)) (t : Tree) (rest : List ℕ) → c ≡ 40 → ((u : Tree) (left : List ℕ) → o ≡ Some (u, left) → IsRegex d cs u left) → closed o ≡ Some (t, rest) → IsAtom (suc d) (c ∷ cs) t rest
found_group d c cs None t rest k f e = absurd (none_here refl e)
found_group d c cs (Some (u, [])) t rest k f e = absurd (none_here refl e)
found_group d c cs (Some (u, b ∷ left)) t rest k f e = elim (split_if (b == 41) _ _ _ e) [
  | inl h ↦
      let p = some_pair u t left rest h.1 in
      let r : IsRegex d cs u (41 ∷ left) = subst (λ x. IsRegex d cs u (x ∷ left)) (is_same b 41 h.0) (f u (b ∷ left) refl) in
      subst (λ x. IsAtom (suc d) (c ∷ cs) x rest) p.0 (subst (λ x. IsAtom (suc d) (c ∷ cs) u x) p.1 (group cs (ap (λ x. x ∷ cs) k) r))
  | inr h ↦ absurd (none_here refl h.1)
]

mutual
  found_regex : (n d : ℕ) (cs : List ℕ) (t : Tree) (rest : List ℕ) → regex_at n d cs ≡ Some (t, rest) → IsRegex d cs t rest
  found_regex zero d cs t rest e = absurd (none_here refl e)
  found_regex (suc n) d cs t rest e = found_after d cs (if stops cs then Some (nothing, cs) else pieces_at n d cs) (λ left. regex_at n d left) t rest (λ u left f. found_sequence d cs (pieces_at n d cs) u left (λ v rest g. found_more n d cs v rest g) f) (λ left u rest f. found_regex n d left u rest f) e

  found_more : (n d : ℕ) (cs : List ℕ) (t : Tree) (rest : List ℕ) → pieces_at n d cs ≡ Some (t, rest) → ArePieces d cs t rest
  found_more zero d cs t rest e = absurd (none_here refl e)
  found_more (suc n) d cs t rest e = found_pieces d cs (counted (atom_at n d cs)) (λ left. pieces_at n d left) t rest (λ u left f. found_piece d cs (atom_at n d cs) u left (λ v left g. found_atom n d cs v left g) f) (λ left u rest f. found_more n d left u rest f) e

  found_atom : (n d : ℕ) (cs : List ℕ) (t : Tree) (rest : List ℕ) → atom_at n d cs ≡ Some (t, rest) → IsAtom d cs t rest
  found_atom zero d cs t rest e = absurd (none_here refl e)
  found_atom (suc n) d [] t rest e = absurd (none_here refl e)
  found_atom (suc n) zero (c ∷ cs) t rest e = found_class zero (c ∷ cs) (set_at (c ∷ cs)) t rest refl e
  found_atom (suc n) (suc d) (c ∷ cs) t rest e = elim (split_if (c == 40) (closed (regex_at n d cs)) (class_of (set_at (c ∷ cs))) (Some (t, rest)) e) [
    | inl h ↦ found_group d c cs (regex_at n d cs) t rest (is_same c 40 h.0) (λ u left f. found_regex n d cs u left f) h.1
    | inr h ↦ found_class (suc d) (c ∷ cs) (set_at (c ∷ cs)) t rest refl h.1
  ]

-- one reading at most
pub read_whole : (n : ℕ) (cs : List ℕ) (t : Tree) → 3 * length cs + 3 ≤ n → IsRegex 64 cs t [] → regex_at n 64 cs ≡ Some (t, [])
read_whole n cs t l r = read_regex n l r tt

pub found_whole : (n : ℕ) (cs : List ℕ) (t : Tree) → regex_at n 64 cs ≡ Some (t, []) → IsRegex 64 cs t []
found_whole n cs t e = found_regex n 64 cs t [] e

pub same_reading : (cs : List ℕ) (t u : Tree) → IsReading cs t → IsReading cs u → t ≡ u
same_reading cs t u a b =
    let e = read_whole (3 * length cs + 3) cs t (omega arith) a.regex in
    let f = read_whole (3 * length cs + 3) cs u (omega arith) b.regex in
    (some_pair t u [] [] (sym e ∙ f)).0
