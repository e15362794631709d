-- Parts of a pattern that stand in a list until the last is read, and are then joined from the right.
use Rattle.std.proofs.Common.{◌≡◌, ◌∙◌, ℕ, suc, Bool, true, false, ◌==◌, List, [], ◌∷◌, ◌++◌, length, refl, sym, ap, subst, arith, None, Some, if◌then◌else◌}
use Rattle.std.specs.Option.{IsSomeAnd}
use Rattle.std.specs.declared.option.Option.{Option}
use Rattle.std.proofs.lemmas.Option.{same_Some, none-some}
use Rattle.xs_regex.specs.declared.regex.Regex.{Regex}
use Rattle.xs_regex.specs.Meaning.{Means, MeanEach, leaning}
use Rattle.xs_regex.specs.Pattern.{Tree, both, either}
use Rattle.xs_regex.specs.Scan.{stops, counted, with_tree, pieces_after, regex_after, regex_at, pieces_at, atom_at, sequence_at, after_bar}

leaning_more : (join : Tree → Tree → Tree) (ts : List Tree) (t u : Tree) → leaning join (ts ++ t ∷ []) u ≡ leaning join ts (join t u)
leaning_more join [] t u = refl
leaning_more join (x ∷ ts) t u = ap (λ y. join x y) (leaning_more join ts t u)

mean_more : (ts : List Tree) (rs : List Regex) (t : Tree) (r : Regex) → MeanEach ts rs → Means t r → MeanEach (ts ++ t ∷ []) (rs ++ r ∷ [])
mean_more [] [] t r h k = (k, tt)
mean_more [] (y ∷ rs) t r h k = absurd h
mean_more (x ∷ ts) [] t r h k = absurd h
mean_more (x ∷ ts) (y ∷ rs) t r h k = (h.0, mean_more ts rs t r h.1 k)

mean_last : (ts : List Tree) (rs : List Regex) (r : Regex) → MeanEach ts (rs ++ r ∷ []) → (us : List Tree) × (u : Tree) × (ts ≡ us ++ u ∷ []) × MeanEach us rs × Means u r
mean_last [] [] r h = absurd h
mean_last [] (y ∷ rs) r h = absurd h
mean_last (t ∷ []) [] r h = ([], t, refl, tt, h.0)
mean_last (t ∷ u ∷ ts) [] r h = absurd h.1
mean_last (t ∷ ts) (y ∷ rs) r h = let m = mean_last ts rs r h.1 in (t ∷ m.0, m.1, ap (λ (l : List Tree). t ∷ l) m.2, (h.0, m.3), m.4)

mean_none : (ts : List Tree) → MeanEach ts [] → ts ≡ []
mean_none [] h = refl
mean_none (t ∷ ts) h = absurd h

-- those that are left and the whole are still all of them
abbrev pub IsJoined : (Tree → Tree → Tree) → List Regex → Regex → List Regex → Regex → Type 0
IsJoined join front last left whole = (ts : List Tree) (t : Tree) → MeanEach ts front → Means t last → (us : List Tree) × (u : Tree) × MeanEach us left × Means u whole × (leaning join us u ≡ leaning join ts t)

pub join_more : (join : Tree → Tree → Tree) (front before after : List Regex) (last part whole next : Regex) → before ≡ after ++ part ∷ [] → ((t u : Tree) → Means t part → Means u whole → Means (join t u) next) → IsJoined join front last before whole → IsJoined join front last after next
join_more join front before after last part whole next e f j = λ ts t h k.
    let x = j ts t h k in
    let m = mean_last x.0 after part (subst (λ (l : List Regex). MeanEach x.0 l) e x.2) in
    (m.0, join m.1 x.1, m.3, f m.1 x.1 m.4 x.3, sym (leaning_more join m.0 m.1 x.1) ∙ ap (λ (l : List Tree). leaning join l x.1) (sym m.2) ∙ x.4)

pub join_end : (join : Tree → Tree → Tree) (front left : List Regex) (last whole : Regex) → length left ≡ 0 → IsJoined join front last left whole → (ts : List Tree) (t : Tree) → MeanEach ts front → Means t last → Means (leaning join ts t) whole
join_end join front (x ∷ left) last whole e j = absurd (omega arith)
join_end join front [] last whole e j = λ ts t h k.
    let x = j ts t h k in
    let none : [] ≡ x.0 = sym (mean_none x.0 x.2) in
    subst (λ u. Means u whole) (ap (λ (l : List Tree). leaning join l x.1) none ∙ x.4) x.3

-- the whole reading is the parts, and then what is read from here
abbrev pub IsAfter : (Tree → Tree → Tree) → List Regex → Option (Tree × List ℕ) → Option (Tree × List ℕ) → Type 0
IsAfter join front whole here = (ts : List Tree) × MeanEach ts front × (whole ≡ with_tree (λ u. leaning join ts u) here)

pub begun : (join : Tree → Tree → Tree) (o : Option (Tree × List ℕ)) → IsAfter join [] o o
begun join None = ([], tt, refl)
begun join (Some a) = ([], tt, refl)

twice : (join : Tree → Tree → Tree) (ts : List Tree) (t : Tree) (o : Option (Tree × List ℕ)) → with_tree (λ u. leaning join ts u) (with_tree (λ u. join t u) o) ≡ with_tree (λ u. leaning join (ts ++ t ∷ []) u) o
twice join ts t None = refl
twice join ts t (Some (u, left)) = ap (λ y. Some (y, left)) (sym (leaning_more join ts t u))

-- a part that is followed by others, one that is the last, and one that is none
abbrev pub IsFollowed : (Tree → Tree → Tree) → Regex → Option (Tree × List ℕ) → Option (Tree × List ℕ) → Type 0
IsFollowed join part here next = (t : Tree) × (here ≡ with_tree (λ u. join t u) next) × Means t part

abbrev pub IsLast : Regex → List ℕ → Option (Tree × List ℕ) → Type 0
IsLast part left here = (t : Tree) × (here ≡ Some (t, left)) × Means t part

pub after_more : (join : Tree → Tree → Tree) (front : List Regex) (part : Regex) (whole here next : Option (Tree × List ℕ)) → IsFollowed join part here next → IsAfter join front whole here → IsAfter join (front ++ part ∷ []) whole next
after_more join front part whole here next f b = (b.0 ++ f.0 ∷ [], mean_more b.0 front f.0 part b.1 f.2, b.2 ∙ ap (λ o. with_tree (λ u. leaning join b.0 u) o) f.1 ∙ twice join b.0 f.0 next)

pub after_last : (join : Tree → Tree → Tree) (front : List Regex) (part r : Regex) (left : List ℕ) (whole here : Option (Tree × List ℕ)) → IsLast part left here → ((ts : List Tree) (t : Tree) → MeanEach ts front → Means t part → Means (leaning join ts t) r) → IsAfter join front whole here → IsSomeAnd whole (λ a. (a.1 ≡ left) × Means a.0 r)
after_last join front part r left whole here f k b =
    let is : whole ≡ Some (leaning join b.0 f.0, left) = b.2 ∙ ap (λ o. with_tree (λ u. leaning join b.0 u) o) f.1 in
    subst (λ o. IsSomeAnd o (λ a. (a.1 ≡ left) × Means a.0 r)) (sym is) (refl, k b.0 f.0 b.1 f.2)

pub after_none : (join : Tree → Tree → Tree) (front : List Regex) (whole here : Option (Tree × List ℕ)) → here ≡ None → IsAfter join front whole here → whole ≡ None
after_none join front whole here e b = b.2 ∙ ap (λ o. with_tree (λ u. leaning join b.0 u) o) e

-- pieces
module _ (n m d : ℕ) (here : List ℕ) (is : n ≡ suc m) where
  unfold_pieces : pieces_at n d here ≡ pieces_after (counted (atom_at m d here)) (λ l. pieces_at m d l)
  unfold_pieces = ap (λ k. pieces_at k d here) is

  pub piece_none : counted (atom_at m d here) ≡ None → pieces_at n d here ≡ None
  piece_none e = unfold_pieces ∙ ap (λ o. pieces_after o (λ l. pieces_at m d l)) e

  pub piece_followed : (part : Regex) (left : List ℕ) → IsSomeAnd (counted (atom_at m d here)) (λ a. (a.1 ≡ left) × Means a.0 part) → stops left ≡ false → IsFollowed both part (pieces_at n d here) (pieces_at m d left)
  piece_followed part left h f = let x = found (counted (atom_at m d here)) h in (x.0, unfold_pieces ∙ x.1, x.2)
    where
      goes : (t : Tree) (b : Bool) → b ≡ false → (if b then Some (t, left) else with_tree (λ u. both t u) (pieces_at m d left)) ≡ with_tree (λ u. both t u) (pieces_at m d left)
      goes t true e = cc
      goes t false e = refl

      found : (o : Option (Tree × List ℕ)) → IsSomeAnd o (λ a. (a.1 ≡ left) × Means a.0 part) → (t : Tree) × (pieces_after o (λ l. pieces_at m d l) ≡ with_tree (λ u. both t u) (pieces_at m d left)) × Means t part
      found None h = absurd h
      found (Some a) h = (a.0, ap (λ (l : List ℕ). pieces_after (Some (a.0, l)) (λ l. pieces_at m d l)) h.0 ∙ goes a.0 (stops left) f, h.1)

  pub piece_last : (part : Regex) (left : List ℕ) → IsSomeAnd (counted (atom_at m d here)) (λ a. (a.1 ≡ left) × Means a.0 part) → stops left ≡ true → IsLast part left (pieces_at n d here)
  piece_last part left h f = let x = found (counted (atom_at m d here)) h in (x.0, unfold_pieces ∙ x.1, x.2)
    where
      goes : (t : Tree) (b : Bool) → b ≡ true → (if b then Some (t, left) else with_tree (λ u. both t u) (pieces_at m d left)) ≡ Some (t, left)
      goes t true e = refl
      goes t false e = cc

      found : (o : Option (Tree × List ℕ)) → IsSomeAnd o (λ a. (a.1 ≡ left) × Means a.0 part) → (t : Tree) × (pieces_after o (λ l. pieces_at m d l) ≡ Some (t, left)) × Means t part
      found None h = absurd h
      found (Some a) h = (a.0, ap (λ (l : List ℕ). pieces_after (Some (a.0, l)) (λ l. pieces_at m d l)) h.0 ∙ goes a.0 (stops left) f, h.1)

-- sequences
some_none : {x : List ℕ} → Some x ≡ None → ⊥
some_none e = cc

module _ (n m d : ℕ) (here : List ℕ) (is : n ≡ suc m) where
  unfold_regex : regex_at n d here ≡ regex_after (sequence_at m d here) (λ l. regex_at m d l)
  unfold_regex = ap (λ k. regex_at k d here) is

  pub sequence_none : sequence_at m d here ≡ None → regex_at n d here ≡ None
  sequence_none e = unfold_regex ∙ ap (λ o. regex_after o (λ l. regex_at m d l)) e

  pub sequence_followed : (part : Regex) (left rest : List ℕ) → IsSomeAnd (sequence_at m d here) (λ a. (a.1 ≡ left) × Means a.0 part) → after_bar left ≡ Some rest → IsFollowed either part (regex_at n d here) (regex_at m d rest)
  sequence_followed part left rest h f = let x = found (sequence_at m d here) h in (x.0, unfold_regex ∙ x.1, x.2)
    where
      by_test : (t : Tree) (c : ℕ) (cs : List ℕ) (b : Bool) → (if b then Some cs else None) ≡ Some rest → (if b then with_tree (λ u. either t u) (regex_at m d cs) else Some (t, c ∷ cs)) ≡ with_tree (λ u. either t u) (regex_at m d rest)
      by_test t c cs true e = ap (λ (l : List ℕ). with_tree (λ u. either t u) (regex_at m d l)) (same_Some _ _ e)
      by_test t c cs false e = absurd (none-some _ e)

      goes : (t : Tree) (l : List ℕ) → after_bar l ≡ Some rest → regex_after (Some (t, l)) (λ l. regex_at m d l) ≡ with_tree (λ u. either t u) (regex_at m d rest)
      goes t [] e = absurd (none-some _ e)
      goes t (c ∷ cs) e = by_test t c cs (c == 124) e

      found : (o : Option (Tree × List ℕ)) → IsSomeAnd o (λ a. (a.1 ≡ left) × Means a.0 part) → (t : Tree) × (regex_after o (λ l. regex_at m d l) ≡ with_tree (λ u. either t u) (regex_at m d rest)) × Means t part
      found None h = absurd h
      found (Some a) h = (a.0, ap (λ (l : List ℕ). regex_after (Some (a.0, l)) (λ l. regex_at m d l)) h.0 ∙ goes a.0 left f, h.1)

  pub sequence_last : (part : Regex) (left : List ℕ) → IsSomeAnd (sequence_at m d here) (λ a. (a.1 ≡ left) × Means a.0 part) → after_bar left ≡ None → IsLast part left (regex_at n d here)
  sequence_last part left h f = let x = found (sequence_at m d here) h in (x.0, unfold_regex ∙ x.1, x.2)
    where
      by_test : (t : Tree) (c : ℕ) (cs : List ℕ) (b : Bool) → (if b then Some cs else None) ≡ None → (if b then with_tree (λ u. either t u) (regex_at m d cs) else Some (t, c ∷ cs)) ≡ Some (t, c ∷ cs)
      by_test t c cs true e = absurd (some_none e)
      by_test t c cs false e = refl

      goes : (t : Tree) (l : List ℕ) → after_bar l ≡ None → regex_after (Some (t, l)) (λ l. regex_at m d l) ≡ Some (t, l)
      goes t [] e = refl
      goes t (c ∷ cs) e = by_test t c cs (c == 124) e

      found : (o : Option (Tree × List ℕ)) → IsSomeAnd o (λ a. (a.1 ≡ left) × Means a.0 part) → (t : Tree) × (regex_after o (λ l. regex_at m d l) ≡ Some (t, left)) × Means t part
      found None h = absurd h
      found (Some a) h = (a.0, ap (λ (l : List ℕ). regex_after (Some (a.0, l)) (λ l. regex_at m d l)) h.0 ∙ goes a.0 left f, h.1)
