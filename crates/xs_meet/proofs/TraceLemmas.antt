-- Pieces that are read back along the links of steps.
use Rattle.std.proofs.Common.{◌≡◌, ℕ, zero, suc, ◌+◌, ◌<◌, ◌≤◌, List, [], ◌∷◌, ◌++◌, length, get_or, take, refl, sym, ap, subst, ◌∙◌, inl, inr, arith, reverse, false, append_assoc}
use Rattle.std.specs.declared.option.Option.{Option}
use Rattle.std.specs.declared.option.Option.TheVariants.{Some, None}
use Rattle.std.specs.Option.{is_some, IfSome, IfNone}
use Rattle.std.proofs.lemmas.Bool.{true≢false}
use Rattle.std.specs.List.{Contains}
use Rattle.std.proofs.lemmas.List.{take_more, reverse-append}
use Rattle.std.proofs.lemmas.List.Elements.{All-cons, All-nil, Contains-push_cases}
use Rattle.xs_class.specs.Classes.{Has}
use Rattle.xs_class.proofs.Lists.{some_same}
use Rattle.xs_auto.specs.declared.call.Call.{Call}
use Rattle.xs_auto.specs.Edges.{Edge}
use Rattle.xs_auto.specs.Nets.{Graph, edges_of, calls_of}
use Rattle.xs_auto.specs.Nests.{Group, Crossing, stands, drifts, takes, enters}
use Rattle.xs_meet.specs.declared.piece.Piece.{Piece}
use Rattle.xs_meet.specs.declared.piece.Piece.TheVariants.{Symbol, Groups}
use Rattle.xs_meet.specs.declared.reached_pair.ReachedPair.{ReachedPair}
use Rattle.xs_meet.specs.Closed.{ReadsBoth, Crosses, CallsBoth, Strides}
use Rattle.xs_meet.specs.Pieces.{Spells, no_piece, one_piece}
use Rattle.xs_meet.specs.Searches.{IsAt, ReadsWith, CallsWith, CallsAmong, NoneCalls, IsLink, IsChained}
use Rattle.xs_meet.specs.Traces.{Bridges, IsRelated, IsTraced}
use Rattle.xs_meet.proofs.SpreadLemmas.{read_at}

-- an element that is read by one default is read by another
get_or_same : {X : Type 0} (xs : List X) (i : ℕ) (d e : X) → i < length xs → get_or xs i e ≡ get_or xs i d
get_or_same [] i d e l = absurd (omega arith)
get_or_same (x ∷ xs) zero d e l = refl
get_or_same (x ∷ xs) (suc i) d e l = get_or_same xs i d e (omega arith)

-- of no edges none reads, of one more only that one may
pub with_none : (e : Edge) (to x : ℕ) → ReadsWith e [] to x → ⊥
with_none e to x r = omega (arith, r.has.1)

pub with_more : (e : Edge) (fs : List Edge) (to i : ℕ) (f : Edge) → i < length fs → f ≡ get_or fs i f → ((x : ℕ) → ReadsWith e (take i fs) to x → ⊥) → ((x : ℕ) → Has e.class x → Has f.class x → f.to ≡ to → ⊥) → (x : ℕ) → ReadsWith e (take (i + 1) fs) to x → ⊥
with_more e fs to i f l is none last x r =
    elim (Contains-push_cases (take i fs) (get_or fs i f) r.other (rw (take_more fs i f l) at r.has)) [
      | inl c ↦ none x (record { other = r.other; has = c; takes = r.takes; takes_too = r.takes_too; leads = r.leads })
      | inr q ↦
          let same : r.other ≡ f = sym (is ∙ q) in
          last x r.takes (rw same at r.takes_too) (rw same at r.leads)
    ]

-- the same of the edges of the first net, each beside all edges of the second
abbrev pub NoneReads : List Edge → List Edge → ℕ → ℕ → Type 0
NoneReads es fs c d = (e : Edge) (x : ℕ) → Contains es e → e.to ≡ c → ReadsWith e fs d x → ⊥

pub reads_none : (fs : List Edge) (c d : ℕ) → NoneReads [] fs c d
reads_none fs c d e x h = absurd (omega (arith, h.1))

pub reads_more : (es fs : List Edge) (c d i : ℕ) (e : Edge) → i < length es → e ≡ get_or es i e → NoneReads (take i es) fs c d → (e.to ≡ c → (x : ℕ) → ReadsWith e fs d x → ⊥) → NoneReads (take (i + 1) es) fs c d
reads_more es fs c d i e l is none last y x h to r =
    elim (Contains-push_cases (take i es) (get_or es i e) y (rw (take_more es i e l) at h)) [
      | inl k ↦ none y x k to r
      | inr q ↦
          let same : y ≡ e = sym (is ∙ q) in
          last (rw same at to) x (rw same at r)
    ]

pub reads_not : (m n : Graph) (a b c d : ℕ) (es fs : List Edge) → es ≡ edges_of m a → fs ≡ edges_of n b → NoneReads es fs c d → Crosses m n a b c d → ⊥
reads_not m n a b c d es fs e f none x =
    let y = x.1 in
    none y.first x.0 (rw e y.of_first) y.to_first (record { other = y.second; has = rw f y.of_second; takes = y.takes_first; takes_too = y.takes_second; leads = y.to_second })

pub reads_found : (m n : Graph) (a b c d i x : ℕ) (es fs : List Edge) (e : Edge) → es ≡ edges_of m a → fs ≡ edges_of n b → i < length es → e ≡ get_or es i e → e.to ≡ c → ReadsWith e fs d x → ReadsBoth m n a b x c d
reads_found m n a b c d i x es fs e p q l is to r = record { first = e; second = r.other; of_first = rw (← p) (i, l, sym is); of_second = rw (← q) r.has; takes_first = r.takes; takes_second = r.takes_too; to_first = to; to_second = r.leads }

-- the same of calls
pub calls_none : (R : ℕ → ℕ → Type 0) (g to h : ℕ) → CallsWith R g [] to h → ⊥
calls_none R g to h r = omega (arith, r.has.1)

pub calls_more : (R : ℕ → ℕ → Type 0) (g : ℕ) (ks : List Call) (to i : ℕ) (d : Call) → i < length ks → ((h : ℕ) → CallsWith R g (take i ks) to h → ⊥) → ((get_or ks i d).to ≡ to → R g (get_or ks i d).group → ⊥) → (h : ℕ) → CallsWith R g (take (i + 1) ks) to h → ⊥
calls_more R g ks to i d l none last h r =
    elim (Contains-push_cases (take i ks) (get_or ks i d) r.other (rw (take_more ks i d l) at r.has)) [
      | inl c ↦ none h (record { other = r.other; has = c; related = r.related; over = r.over; leads = r.leads })
      | inr same ↦ last (ap (λ k. k.to) same ∙ r.leads) (rw (← same) at r.related)
    ]

pub call_found : (R : ℕ → ℕ → Type 0) (g : ℕ) (ks : List Call) (to i : ℕ) (d : Call) → i < length ks → (get_or ks i d).to ≡ to → R g (get_or ks i d).group → CallsWith R g ks to (get_or ks i d).group
call_found R g ks to i d l leads r = record { other = get_or ks i d; has = (i, l, get_or_same ks i d (get_or ks i d) l); related = r; over = refl; leads = leads }

pub groups_none : (R : ℕ → ℕ → Type 0) (ks : List Call) (c d : ℕ) → NoneCalls R [] ks c d
groups_none R ks c d k h has = absurd (omega (arith, has.1))

pub groups_more : (R : ℕ → ℕ → Type 0) (hs ks : List Call) (c d i : ℕ) (z : Call) → i < length hs → NoneCalls R (take i hs) ks c d → ((get_or hs i z).to ≡ c → (h : ℕ) → CallsWith R (get_or hs i z).group ks d h → ⊥) → NoneCalls R (take (i + 1) hs) ks c d
groups_more R hs ks c d i z l none last k h has to r =
    elim (Contains-push_cases (take i hs) (get_or hs i z) k (rw (take_more hs i z l) at has)) [
      | inl m ↦ none k h m to r
      | inr same ↦ last (ap (λ k. k.to) same ∙ to) h (rw (← same) at r)
    ]

pub groups_found : (R : ℕ → ℕ → Type 0) (hs ks : List Call) (c d i h : ℕ) (z : Call) → i < length hs → (get_or hs i z).to ≡ c → CallsWith R (get_or hs i z).group ks d h → CallsAmong R hs ks c d (get_or hs i z).group h
groups_found R hs ks c d i h z l leads r = record { call = get_or hs i z; has = (i, l, get_or_same hs i z (get_or hs i z) l); over = refl; leads = leads; beside = r }

-- calls that were found bridge two pairs, and where none were, none enter
pub calls_bridge : (R : ℕ → ℕ → Type 0) (m n : Graph) (a b c d g h : ℕ) (hs ks : List Call) → hs ≡ calls_of m a → ks ≡ calls_of n b → CallsAmong R hs ks c d g h → CallsBoth R m n a b g h c d
calls_bridge R m n a b c d g h hs ks p q r = record { first = r.call; second = r.beside.other; of_first = rw (← p) r.has; of_second = rw (← q) r.beside.has; over_first = r.over; over_second = r.beside.over; related = rw (r.over, r.beside.over) at r.beside.related; to_first = r.leads; to_second = r.beside.leads }

pub none_stride : (R : ℕ → ℕ → Type 0) (m n : Graph) (a b c d : ℕ) (hs ks : List Call) → hs ≡ calls_of m a → ks ≡ calls_of n b → (Crosses m n a b c d → ⊥) → NoneCalls R hs ks c d → Strides R m n a b c d → ⊥
none_stride R m n a b c d hs ks p q none calls (inl x) = none x
none_stride R m n a b c d hs ks p q none calls (inr x) =
    let y = x.2 in
    calls y.first y.second.group (rw p y.of_first) y.to_first (record { other = y.second; has = rw q y.of_second; related = rw (y.over_first, y.over_second) y.related; over = refl; leads = y.to_second })

-- pieces are spelt one after the other
cross_none : {nest : List Group} {n : Graph} {a : ℕ} {w : List ℕ} → Spells nest [] w → Crossing nest n a w a
cross_none no_piece = stands

pub cross_symbol : {nest : List Group} {n : Graph} {a b x : ℕ} {ps : List Piece} {w : List ℕ} (e : Edge) → Contains (edges_of n a) e → Has e.class x → ((v : List ℕ) → Spells nest ps v → Crossing nest n e.to v b) → Spells nest (Symbol x ∷ ps) w → Crossing nest n a w b
cross_symbol {nest} {n} {a} {b} {x} e has t rest (one_piece u v means later split) =
    subst (λ w. Crossing nest n a w b) (sym (split ∙ ap (λ u. u ++ v) means)) (takes e has t (rest v later))

enclosed : (l r : ℕ) (u v w content : List ℕ) → w ≡ u ++ v → u ≡ l ∷ (content ++ r ∷ []) → w ≡ l ∷ (content ++ r ∷ v)
enclosed l r u v w content split is = split ∙ ap (λ u. u ++ v) is ∙ ap (λ y. l ∷ y) (append_assoc content (r ∷ []) v)

pub cross_first : {nest : List Group} {n : Graph} {a b g h : ℕ} {ps : List Piece} {w : List ℕ} (k : Call) → Contains (calls_of n a) k → k.group ≡ g → ((v : List ℕ) → Spells nest ps v → Crossing nest n k.to v b) → Spells nest (Groups g h ∷ ps) w → Crossing nest n a w b
cross_first {w = w} k has over rest (one_piece u v means later split) =
    let s = means.share in
    enters k s.first has (rw over s.is_first) s.accepts_first.starts s.accepts_first.crosses s.accepts_first.final (rest v later) (enclosed s.first.left s.first.right u v w means.content split means.is)

pub cross_second : {nest : List Group} {n : Graph} {a b g h : ℕ} {ps : List Piece} {w : List ℕ} (k : Call) → Contains (calls_of n a) k → k.group ≡ h → ((v : List ℕ) → Spells nest ps v → Crossing nest n k.to v b) → Spells nest (Groups g h ∷ ps) w → Crossing nest n a w b
cross_second {w = w} k has over rest (one_piece u v means later split) =
    let s = means.share in
    enters k s.second has (rw over s.is_second) s.accepts_second.starts s.accepts_second.crosses s.accepts_second.final (rest v later) (enclosed s.second.left s.second.right u v w means.content split (means.is ∙ fence_same means.content s.fence.left s.fence.right))
  where
    fence_same : {l m r q : ℕ} (content : List ℕ) → l ≡ m → r ≡ q → l ∷ (content ++ r ∷ []) ≡ m ∷ (content ++ q ∷ [])
    fence_same content e f = cc

-- a piece that bridges two pairs leads both nets from the one to the other
pub bridge_first : (R : ℕ → ℕ → Type 0) (m n : Graph) (a b c d last : ℕ) (nest : List Group) (x : Piece) (ps : List Piece) (w : List ℕ) → Bridges R m n a b c d x → ((v : List ℕ) → Spells nest ps v → Crossing nest m c v last) → Spells nest (x ∷ ps) w → Crossing nest m a w last
bridge_first R m n a b c d last nest (Symbol s) ps w r rest spells = cross_symbol r.first r.of_first r.takes_first (λ v y. subst (λ (k : ℕ). Crossing nest m k v last) (sym r.to_first) (rest v y)) spells
bridge_first R m n a b c d last nest (Groups g h) ps w r rest spells = cross_first r.first r.of_first r.over_first (λ v y. subst (λ (k : ℕ). Crossing nest m k v last) (sym r.to_first) (rest v y)) spells

pub bridge_second : (R : ℕ → ℕ → Type 0) (m n : Graph) (a b c d last : ℕ) (nest : List Group) (x : Piece) (ps : List Piece) (w : List ℕ) → Bridges R m n a b c d x → ((v : List ℕ) → Spells nest ps v → Crossing nest n d v last) → Spells nest (x ∷ ps) w → Crossing nest n b w last
bridge_second R m n a b c d last nest (Symbol s) ps w r rest spells = cross_symbol r.second r.of_second r.takes_second (λ v y. subst (λ (k : ℕ). Crossing nest n k v last) (sym r.to_second) (rest v y)) spells
bridge_second R m n a b c d last nest (Groups g h) ps w r rest spells = cross_second r.second r.of_second r.over_second (λ v y. subst (λ (k : ℕ). Crossing nest n k v last) (sym r.to_second) (rest v y)) spells

pub bridge_related : (R : ℕ → ℕ → Type 0) (m n : Graph) (a b c d : ℕ) (x : Piece) → Bridges R m n a b c d x → IsRelated R x
bridge_related R m n a b c d (Symbol s) r = tt
bridge_related R m n a b c d (Groups g h) r = r.related

-- the pieces so far, gone on from one step earlier: by a piece, or by an empty move
pub traced_none : (R : ℕ → ℕ → Type 0) (m n : Graph) (steps : List ReachedPair) (at : ℕ) (s : ReachedPair) → IsAt steps at s → IsTraced R m n steps at at []
traced_none R m n steps at s e = record { first = s; last = s; begins = e; ends = e; related = All-nil (IsRelated R); crosses_first = λ nest w x. cross_none x; crosses_second = λ nest w x. cross_none x }

pub traced_piece : (R : ℕ → ℕ → Type 0) {m n : Graph} {steps : List ReachedPair} {at place from : ℕ} {ps : List Piece} (x : Piece) (s p : ReachedPair) → IsAt steps at s → IsAt steps from p → Bridges R m n p.first p.second s.first s.second x → IsTraced R m n steps at place ps → IsTraced R m n steps from place (x ∷ ps)
traced_piece R {m} {n} {steps} {at} {place} {from} {ps} x s p here up r t =
    let same : t.first ≡ s = some_same _ _ _ t.begins here in
    record {
      first = p;
      last = t.last;
      begins = up;
      ends = t.ends;
      related = All-cons (IsRelated R) x ps (bridge_related R m n p.first p.second s.first s.second x r) t.related;
      crosses_first = λ nest w y. bridge_first R m n p.first p.second s.first s.second t.last.first nest x ps w r (λ v z. subst (λ (k : ℕ). Crossing nest m k v t.last.first) (ap (λ s. s.first) same) (t.crosses_first nest v z)) y;
      crosses_second = λ nest w y. bridge_second R m n p.first p.second s.first s.second t.last.second nest x ps w r (λ v z. subst (λ (k : ℕ). Crossing nest n k v t.last.second) (ap (λ s. s.second) same) (t.crosses_second nest v z)) y;
    }

pub traced_move : (R : ℕ → ℕ → Type 0) {m n : Graph} {steps : List ReachedPair} {at place from : ℕ} {ps : List Piece} (s p : ReachedPair) → IsAt steps at s → IsAt steps from p → IsLink R m n steps at s → s.from ≡ from → (Strides R m n p.first p.second s.first s.second → ⊥) → IsTraced R m n steps at place ps → IsTraced R m n steps from place ps
traced_move R {m} {n} {steps} {at} {place} {from} {ps} s p here up link is none t =
    let same : t.first ≡ s = some_same _ _ _ t.begins here in
    let one : (nest : List Group) (w : List ℕ) → Spells nest ps w → Crossing nest m s.first w t.last.first = rw same at t.crosses_first in
    let two : (nest : List Group) (w : List ℕ) → Spells nest ps w → Crossing nest n s.second w t.last.second = rw same at t.crosses_second in
    let parent : link.parent ≡ p = some_same _ _ _ (rw is at link.at) up in
    elim (rw parent at link.leads) [
      | inl d ↦ elim d [
        | inl x ↦ record { first = p; last = t.last; begins = up; ends = t.ends; related = t.related; crosses_first = λ nest w y. drifts x.move (one nest w y); crosses_second = λ nest w y. subst (λ (k : ℕ). Crossing nest n k w t.last.second) x.still (two nest w y) }
        | inr x ↦ record { first = p; last = t.last; begins = up; ends = t.ends; related = t.related; crosses_first = λ nest w y. subst (λ (k : ℕ). Crossing nest m k w t.last.first) x.still (one nest w y); crosses_second = λ nest w y. drifts x.move (two nest w y) }
      ]
      | inr c ↦ absurd (none c)
    ]

-- the pair at a place, the one that it was reached from, and where both are
pub record IsStepped (R : ℕ → ℕ → Type 0) (m n : Graph) (steps : List ReachedPair) (at : ℕ) (s p : ReachedPair) : Type 0 where
  pub here : IsAt steps at s
  pub link : IsLink R m n steps at s
  pub within : s.from < length steps
  pub up : IsAt steps s.from p

pub stepped : (R : ℕ → ℕ → Type 0) {m n : Graph} {seeds at : ℕ} {steps : List ReachedPair} (s p : ReachedPair) → IsChained R m n seeds steps → seeds ≤ at → at < length steps → s ≡ get_or steps at s → p ≡ get_or steps s.from p → IsStepped R m n steps at s p
stepped R {at = at} {steps = steps} s p chained from l e f =
    let here = read_at steps at s l e in
    let link = chained at s from here in
    let within : s.from < length steps = omega (arith, link.earlier) in
    record { here = here; link = link; within = within; up = read_at steps s.from p within f }

-- an element is pushed after those that are read in reverse
pub reverse_push : {X : Type 0} (xs : List X) (x : X) → reverse (xs ++ x ∷ []) ≡ x ∷ reverse xs
reverse_push xs x = reverse-append xs (x ∷ [])

-- what a search that found nothing, or a symbol, says
pub none_common : (P Q : ℕ → Type 0) (o : Option ℕ) → is_some o ≡ false → IfNone o ((s : ℕ) → P s → Q s → ⊥) → (s : ℕ) → P s → Q s → ⊥
none_common P Q None e h = h
none_common P Q (Some x) e h = absurd (true≢false e)

pub none_reads : (P : ℕ → Type 0) (o : Option ℕ) → is_some o ≡ false → IfNone o ((s : ℕ) → P s → ⊥) → (s : ℕ) → P s → ⊥
none_reads P None e h = h
none_reads P (Some x) e h = absurd (true≢false e)

pub some_reads : (m n : Graph) (a b c d i : ℕ) (es fs : List Edge) (e : Edge) (o : Option ℕ) → es ≡ edges_of m a → fs ≡ edges_of n b → i < length es → e ≡ get_or es i e → e.to ≡ c → IfSome o (ReadsWith e fs d) → IfSome o (λ x. ReadsBoth m n a b x c d)
some_reads m n a b c d i es fs e None p q l is to h = h
some_reads m n a b c d i es fs e (Some x) p q l is to h = reads_found m n a b c d i x es fs e p q l is to h
