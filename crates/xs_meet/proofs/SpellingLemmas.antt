-- Words that pieces spell, and pieces that are put in place of others.
use Rattle.std.proofs.Common.{◌≡◌, ℕ, zero, suc, ◌+◌, ◌<◌, ◌≤◌, List, [], ◌∷◌, ◌++◌, length, take, get_or, refl, sym, ap, subst, ◌∙◌, append_assoc, append-nil, inl, inr, arith}
use Rattle.std.specs.List.{All, slice_range, slice_get}
use Rattle.std.specs.declared.option.Option.TheVariants.{Some}
use Rattle.std.proofs.lemmas.Bool.{cases_eq}
use Rattle.std.proofs.lemmas.List.Elements.{All-append, All-cons, All-get_or, All-head, All-nil, All-tail}
use Rattle.std.proofs.lemmas.Option.{get_or_from_slice_get}
use Rattle.xs_class.proofs.Lists.{some_same, take_next}
use Rattle.xs_auto.specs.Nests.{Group, no_group, group_at, IsGroup, ShareContent}
use Rattle.xs_meet.specs.declared.piece.Piece.{Piece}
use Rattle.xs_meet.specs.declared.piece.Piece.TheVariants.{Symbol, Groups}
use Rattle.xs_meet.specs.declared.shared_groups.SharedGroups.{SharedGroups}
use Rattle.xs_meet.specs.Pieces.{Means, Encloses, Spells, no_piece, one_piece}
use Rattle.xs_meet.specs.Sharing.{Sharing, AreKnown, IsOf, IsKnownBefore, IsRow, IsSharing}
use Rattle.xs_meet.specs.Spelling.{HasGroups, IsSymbol, IsUnfolded}
use Rattle.xs_meet.specs.Traces.{IsRelated}

-- a word in two parts, which the two lists of pieces spell
record IsParted (nest : List Group) (ps qs : List Piece) (w : List ℕ) : Type 0 where
  front : List ℕ
  back : List ℕ
  spells_front : Spells nest ps front
  spells_back : Spells nest qs back
  is : w ≡ front ++ back

parted : (nest : List Group) (ps qs : List Piece) (w : List ℕ) → Spells nest (ps ++ qs) w → IsParted nest ps qs w
parted nest [] qs w s = record { front = []; back = w; spells_front = no_piece; spells_back = s; is = refl }
parted nest (p ∷ ps) qs w (one_piece u v means later split) =
    let r = parted nest ps qs v later in
    record { front = u ++ r.front; back = r.back; spells_front = one_piece u r.front means r.spells_front refl; spells_back = r.spells_back; is = split ∙ ap (λ y. u ++ y) r.is ∙ sym (append_assoc u r.front r.back) }

joined : {nest : List Group} {ps : List Piece} {u : List ℕ} (qs : List Piece) (v w : List ℕ) → Spells nest ps u → Spells nest qs v → w ≡ u ++ v → Spells nest (ps ++ qs) w
joined qs v w no_piece t e = rw e t
joined {u = u} qs v w (one_piece x y means later split) t e = one_piece x (y ++ v) means (joined qs v (y ++ v) later t refl) (e ∙ ap (λ z. z ++ v) split ∙ append_assoc x y v)

-- one piece alone
alone : {nest : List Group} {p : Piece} {w : List ℕ} → Means nest p w → Spells nest (p ∷ []) w
alone {w = w} m = one_piece w [] m no_piece (sym (append-nil w))

empty_word : {nest : List Group} {ps : List Piece} {w : List ℕ} → ps ≡ [] → Spells nest ps w → w ≡ []
empty_word e no_piece = refl
empty_word e (one_piece u v m later split) = cc

of_first : {nest : List Group} {p : Piece} {ps : List Piece} {w : List ℕ} → ps ≡ [] → Spells nest (p ∷ ps) w → Means nest p w
of_first {nest} {p} e (one_piece u v m later split) = subst (λ z. Means nest p z) (sym (split ∙ ap (λ z. u ++ z) (empty_word e later) ∙ append-nil u)) m

of_alone : {nest : List Group} {p : Piece} {w : List ℕ} → Spells nest (p ∷ []) w → Means nest p w
of_alone s = of_first refl s

-- groups share a word in either order
abbrev pub share_turned : (nest : List Group) (g h : ℕ) (w : List ℕ) → ShareContent nest g h w → ShareContent nest h g w
share_turned nest g h w s = record {
  first = s.second;
  second = s.first;
  is_first = s.is_second;
  is_second = s.is_first;
  fence = record { left = sym s.fence.left; right = sym s.fence.right };
  accepts_first = s.accepts_second;
  accepts_second = s.accepts_first;
}

-- the fence of a group, read by its number
fence_of : (nest : List Group) (h : ℕ) (group : Group) → IsGroup nest h group → group_at nest h ≡ group
fence_of nest h group is = get_or_from_slice_get nest h group no_group is

enclosed_in : (nest : List Group) (g h l r : ℕ) (w : List ℕ) (s : ShareContent nest g h w) → l ≡ s.first.left → r ≡ s.first.right → Encloses nest g h (l ∷ (w ++ r ∷ []))
enclosed_in nest g h l r w s e f = record { content = w; share = s; is = same_ends w e f }
  where
    same_ends : {a b c d : ℕ} (u : List ℕ) → a ≡ b → c ≡ d → a ∷ (u ++ c ∷ []) ≡ b ∷ (u ++ d ∷ [])
    same_ends u p q = cc

-- a fence round pieces that spell a word of the row's groups spells what their piece means
row_means : (nest : List Group) (row : SharedGroups) (g h : ℕ) (w : List ℕ) → IsOf row g h → ShareContent nest row.first row.second w → Encloses nest g h ((group_at nest row.first).left ∷ (w ++ (group_at nest row.first).right ∷ []))
row_means nest row g h w (inl (e, f)) s =
    let t : ShareContent nest g h w = subst (λ (k : ℕ). ShareContent nest g k w) f (subst (λ (k : ℕ). ShareContent nest k row.second w) e s) in
    let same = fence_of nest row.first t.first (subst (λ (k : ℕ). IsGroup nest k t.first) (sym e) t.is_first) in
    enclosed_in nest g h _ _ w t (ap (λ x. x.left) same) (ap (λ x. x.right) same)
row_means nest row g h w (inr (e, f)) s =
    let t : ShareContent nest h g w = subst (λ (k : ℕ). ShareContent nest h k w) f (subst (λ (k : ℕ). ShareContent nest k row.second w) e s) in
    let same = fence_of nest row.first t.first (subst (λ (k : ℕ). IsGroup nest k t.first) (sym e) t.is_first) in
    enclosed_in nest g h _ _ w (share_turned nest h g w t) (ap (λ x. x.left) same ∙ t.fence.left) (ap (λ x. x.right) same ∙ t.fence.right)

-- pieces between the symbols of a fence
fenced_spells : (nest : List Group) (l r : ℕ) (inside : List Piece) (w : List ℕ) → Spells nest (Symbol l ∷ (inside ++ Symbol r ∷ [])) w → (u : List ℕ) × Spells nest inside u × (w ≡ l ∷ (u ++ r ∷ []))
fenced_spells nest l r inside w (one_piece x y means later split) =
    let q = parted nest inside (Symbol r ∷ []) y later in
    (q.front, q.spells_front, split ∙ ap (λ z. z ++ y) means ∙ ap (λ z. l ∷ z) (q.is ∙ ap (λ z. q.front ++ z) (of_alone q.spells_back)))

-- at the beginning nothing was put in place of anything
pub unfolded_none : (nest : List Group) (rows : List SharedGroups) (k : ℕ) → IsUnfolded nest rows k [] []
unfolded_none nest rows k = record { spells = λ w s. s; known = All-nil (IsKnownBefore rows k) }

-- one piece more, for which other pieces stand
unfolded_by : {nest : List Group} {rows : List SharedGroups} {k : ℕ} {ps qs : List Piece} (p : Piece) (xs : List Piece) → ((w : List ℕ) → Spells nest xs w → Means nest p w) → All (IsKnownBefore rows k) xs → IsUnfolded nest rows k ps qs → IsUnfolded nest rows k (ps ++ p ∷ []) (qs ++ xs)
unfolded_by {nest} {rows} {k} {ps} {qs} p xs means low u = record {
  spells = λ w s.
      let r = parted nest qs xs w s in
      joined (p ∷ []) r.back w (u.spells r.front r.spells_front) (alone (means r.back r.spells_back)) r.is;
  known = All-append (IsKnownBefore rows k) qs xs u.known low;
}

-- a piece that is not of the row's groups stays
pub unfolded_same : {nest : List Group} {rows : List SharedGroups} {k : ℕ} {ps qs : List Piece} (row : SharedGroups) (p : Piece) → slice_get rows k ≡ Some row → IsKnownBefore rows (k + 1) p → (HasGroups row p → ⊥) → IsUnfolded nest rows k ps qs → IsUnfolded nest rows k (ps ++ p ∷ []) (qs ++ p ∷ [])
unfolded_same {nest} {rows} {k} {ps} {qs} row p at known not u = unfolded_by p (p ∷ []) (λ w s. of_alone s) (All-cons (IsKnownBefore rows k) p [] (earlier p known not) (All-nil (IsKnownBefore rows k))) u
  where
    earlier : (p : Piece) → IsKnownBefore rows (k + 1) p → (HasGroups row p → ⊥) → IsKnownBefore rows k p
    earlier (Symbol s) known not = tt
    earlier (Groups g h) known not = elim (cases_eq known.place k) [
      | inl e ↦
          let same : known.row ≡ row = some_same _ _ _ (subst (λ (i : ℕ). slice_get rows i ≡ Some known.row) e known.at) at in
          absurd (not (subst (λ r. IsOf r g h) same known.is_of))
      | inr ne ↦ record { place = known.place; row = known.row; before = omega (arith, known.before); at = known.at; is_of = known.is_of }
    ]

-- one that is gives way to the row's pieces in a fence
pub unfolded_row : {nest : List Group} {s : Sharing} {k : ℕ} {ps qs : List Piece} (row : SharedGroups) (p : Piece) → IsRow nest s k row → HasGroups row p → IsUnfolded nest s.rows k ps qs → IsUnfolded nest s.rows k (ps ++ p ∷ []) (((qs ++ Symbol (group_at nest row.first).left ∷ []) ++ slice_range s.pieces row.start row.end) ++ Symbol (group_at nest row.first).right ∷ [])
unfolded_row {nest} {s} {k} {ps} {qs} row p r has u =
    let l = (group_at nest row.first).left in
    let e = (group_at nest row.first).right in
    let inside = slice_range s.pieces row.start row.end in
    let K : Piece → Type 0 = IsKnownBefore s.rows k in
    let whole : ((qs ++ Symbol l ∷ []) ++ inside) ++ Symbol e ∷ [] ≡ qs ++ (Symbol l ∷ (inside ++ Symbol e ∷ [])) = append_assoc (qs ++ Symbol l ∷ []) inside (Symbol e ∷ []) ∙ append_assoc qs (Symbol l ∷ []) (inside ++ Symbol e ∷ []) in
    rw whole (unfolded_by p (Symbol l ∷ (inside ++ Symbol e ∷ [])) (λ w t. means p has w (fenced_spells nest l e inside w t)) (All-cons K (Symbol l) (inside ++ Symbol e ∷ []) tt (All-append K inside (Symbol e ∷ []) r.known (All-cons K (Symbol e) [] tt (All-nil K)))) u)
  where
    means : (p : Piece) → HasGroups row p → (w : List ℕ) → (u : List ℕ) × Spells nest (slice_range s.pieces row.start row.end) u × (w ≡ (group_at nest row.first).left ∷ (u ++ (group_at nest row.first).right ∷ [])) → Means nest p w
    means (Symbol x) has w t = absurd has
    means (Groups g h) has w t = subst (λ z. Encloses nest g h z) (sym t.2) (row_means nest row g h t.0 has (r.spells t.0 t.1))

-- pieces that go through two lists
pub unfolded_then : {nest : List Group} {rows : List SharedGroups} {k : ℕ} {ps qs : List Piece} → IsUnfolded nest rows k ps qs → (os : List Piece) → ((w : List ℕ) → Spells nest ps w → Spells nest os w) → (w : List ℕ) → Spells nest qs w → Spells nest os w
unfolded_then u os before w s = before w (u.spells w s)

-- before any row only symbols are known
pub only_symbols : (rows : List SharedGroups) (ps : List Piece) → All (IsKnownBefore rows 0) ps → All IsSymbol ps
only_symbols rows [] known = All-nil IsSymbol
only_symbols rows (Symbol s ∷ ps) known = All-cons IsSymbol (Symbol s) ps tt (only_symbols rows ps (All-tail (IsKnownBefore rows 0) (Symbol s) ps known))
only_symbols rows (Groups g h ∷ ps) known = let l = All-head (IsKnownBefore rows 0) (Groups g h) ps known in absurd (omega (arith, l.before))

-- related pieces are known by some row
pub all_known : (nest : List Group) (s : Sharing) → IsSharing nest s → (ps : List Piece) → All (IsRelated (AreKnown s)) ps → All (IsKnownBefore s.rows (length s.rows)) ps
all_known nest s sharing [] related = All-nil (IsKnownBefore s.rows (length s.rows))
all_known nest s sharing (Symbol x ∷ ps) related = All-cons (IsKnownBefore s.rows (length s.rows)) (Symbol x) ps tt (all_known nest s sharing ps (All-tail (IsRelated (AreKnown s)) (Symbol x) ps related))
all_known nest s sharing (Groups g h ∷ ps) related = All-cons (IsKnownBefore s.rows (length s.rows)) (Groups g h) ps (sharing.listed g h (All-head (IsRelated (AreKnown s)) (Groups g h) ps related)) (all_known nest s sharing ps (All-tail (IsRelated (AreKnown s)) (Groups g h) ps related))

-- one symbol more
pub symbol_more : (nest : List Group) (ps : List Piece) (s : ℕ) (w : List ℕ) → Spells nest ps w → Spells nest (ps ++ Symbol s ∷ []) (w ++ s ∷ [])
symbol_more nest ps s w t = joined (Symbol s ∷ []) (s ∷ []) (w ++ s ∷ []) t (alone refl) refl

-- known pieces spell some word
pub some_word : (nest : List Group) (s : Sharing) → IsSharing nest s → (k : ℕ) (ps : List Piece) → All (IsKnownBefore s.rows k) ps → (w : List ℕ) × Spells nest ps w
some_word nest s sharing k [] known = ([], no_piece)
some_word nest s sharing k (Symbol x ∷ ps) known = let r = some_word nest s sharing k ps (All-tail (IsKnownBefore s.rows k) (Symbol x) ps known) in (x ∷ r.0, one_piece (x ∷ []) r.0 refl r.1 refl)
some_word nest s sharing zero (Groups g h ∷ ps) known = let l = All-head (IsKnownBefore s.rows 0) (Groups g h) ps known in absurd (omega (arith, l.before))
some_word nest s sharing (suc k) (Groups g h ∷ ps) known =
    let l = All-head (IsKnownBefore s.rows (suc k)) (Groups g h) ps known in
    let row = sharing.rows l.place l.row l.at in
    let inside = slice_range s.pieces l.row.start l.row.end in
    let u = some_word nest s sharing k inside (sooner k inside (omega (arith, l.before)) row.known) in
    let r = some_word nest s sharing (suc k) ps (All-tail (IsKnownBefore s.rows (suc k)) (Groups g h) ps known) in
    let m = row_means nest l.row g h u.0 l.is_of (row.spells u.0 u.1) in
    (_, one_piece _ r.0 m r.1 refl)
  where
    sooner : {i : ℕ} (k : ℕ) (ps : List Piece) → i ≤ k → All (IsKnownBefore s.rows i) ps → All (IsKnownBefore s.rows k) ps
    sooner k [] le known = All-nil (IsKnownBefore s.rows k)
    sooner {i} k (Symbol x ∷ ps) le known = All-cons (IsKnownBefore s.rows k) (Symbol x) ps tt (sooner k ps le (All-tail (IsKnownBefore s.rows i) (Symbol x) ps known))
    sooner {i} k (Groups g h ∷ ps) le known =
        let l = All-head (IsKnownBefore s.rows i) (Groups g h) ps known in
        All-cons (IsKnownBefore s.rows k) (Groups g h) ps (record { place = l.place; row = l.row; before = omega (arith, l.before); at = l.at; is_of = l.is_of }) (sooner k ps le (All-tail (IsKnownBefore s.rows i) (Groups g h) ps known))

-- a loop's turn at a piece of the row's groups, at another piece, and at a symbol
pub row_next : (nest : List Group) (s : Sharing) (k i : ℕ) (pieces : List Piece) (row : SharedGroups) (p : Piece) (l r : ℕ) (inside before one two after : List Piece) → IsSharing nest s → slice_get s.rows k ≡ Some row → i < length pieces → p ≡ get_or pieces i p → HasGroups row p → l ≡ (group_at nest row.first).left → r ≡ (group_at nest row.first).right → inside ≡ slice_range s.pieces row.start row.end → one ≡ before ++ Symbol l ∷ [] → two ≡ one ++ inside → after ≡ two ++ Symbol r ∷ [] → IsUnfolded nest s.rows k (take i pieces) before → IsUnfolded nest s.rows k (take (i + 1) pieces) after
row_next nest s k i pieces row p l r inside before one two after sharing at low read has el er is a b c u =
    rw (take_next pieces i p low read, c, b, a, is, el, er) (unfolded_row row p (sharing.rows k row at) has u)

pub same_next : (nest : List Group) (s : Sharing) (k i : ℕ) (pieces : List Piece) (row : SharedGroups) (p : Piece) (before after : List Piece) → slice_get s.rows k ≡ Some row → i < length pieces → p ≡ get_or pieces i p → All (IsKnownBefore s.rows (k + 1)) pieces → (HasGroups row p → ⊥) → after ≡ before ++ p ∷ [] → IsUnfolded nest s.rows k (take i pieces) before → IsUnfolded nest s.rows k (take (i + 1) pieces) after
same_next nest s k i pieces row p before after at low read known not is u =
    rw (take_next pieces i p low read, is) (unfolded_same row p at (rw read (All-get_or (IsKnownBefore s.rows (k + 1)) pieces i p low known)) not u)

pub symbol_next : (nest : List Group) (pieces : List Piece) (i : ℕ) (p : Piece) (s : ℕ) (before after : List ℕ) → i < length pieces → p ≡ get_or pieces i p → p ≡ Symbol s → after ≡ before ++ s ∷ [] → Spells nest (take i pieces) before → Spells nest (take (i + 1) pieces) after
symbol_next nest pieces i p s before after low read is e t = rw (take_next pieces i p low read, is, e) (symbol_more nest (take i pieces) s before t)

pub no_groups : (pieces : List Piece) (i : ℕ) (p : Piece) → All IsSymbol pieces → i < length pieces → p ≡ get_or pieces i p → (g h : ℕ) → p ≡ Groups g h → ⊥
no_groups pieces i p all low read g h e = let is : IsSymbol p = rw read (All-get_or IsSymbol pieces i p low all) in rw e at is
