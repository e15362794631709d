-- Paths of arcs, each with a word.
use Rattle.std.proofs.Common.{◌≡◌, ℕ, ◌≤◌, List, [], ◌++◌, length, sym, ap, ◌∙◌, arith, append_assoc, append-nil, length-append}

-- arcs one after another lead from a by the word to b
pub data Path {S : Type 0} (T : S → List ℕ → S → Type 0) : S → List ℕ → S → Type 0 where
  stays : {a : S} → Path T a [] a
  goes : {a b c : S} {u v w : List ℕ} → T a u b → Path T b v c → w ≡ u ++ v → Path T a w c

pub path_on : {S : Type 0} {T : S → List ℕ → S → Type 0} {a b c : S} {u v : List ℕ} → Path T a u b → Path T b v c → Path T a (u ++ v) c
path_on stays q = q
path_on {v = v} (goes {u = x} {v = y} t p e) q = goes t (path_on p q) (ap (λ (l : List ℕ). l ++ v) e ∙ append_assoc x y v)

pub path_one : {S : Type 0} {T : S → List ℕ → S → Type 0} {a b : S} {w : List ℕ} → T a w b → Path T a w b
path_one {w = w} t = goes t stays (sym (append-nil w))

-- a path that goes on by one arc
pub path_snoc : {S : Type 0} {T : S → List ℕ → S → Type 0} {a b c : S} {u v : List ℕ} → Path T a u b → T b v c → Path T a (u ++ v) c
path_snoc p t = path_on p (path_one t)

pub path_map : {S : Type 0} {T U : S → List ℕ → S → Type 0} → ((a : S) (w : List ℕ) (b : S) → T a w b → U a w b) → {a b : S} {w : List ℕ} → Path T a w b → Path U a w b
path_map f stays = stays
path_map f (goes {a = a} {b = b} {u = u} t p e) = goes (f a u b t) (path_map f p) e

-- a path by a word of at most so many symbols is mapped where arcs by such words are
pub path_map_within : {S : Type 0} {T U : S → List ℕ → S → Type 0} (k : ℕ) → ((a : S) (w : List ℕ) (b : S) → length w ≤ k → T a w b → U a w b) → {a b : S} {w : List ℕ} → length w ≤ k → Path T a w b → Path U a w b
path_map_within k f lt stays = stays
path_map_within k f lt (goes {a = a} {b = b} {u = u} {v = v} t p e) =
    goes (f a u b (omega (arith, lt, ap length e, length-append u v)) t) (path_map_within k f (omega (arith, lt, ap length e, length-append u v)) p) e

-- where arcs of T that leave a state of P are arcs of U, and lead to states of P, so do paths
pub path_kept : {S : Type 0} {T U : S → List ℕ → S → Type 0} (P : S → Type 0) → ((a : S) (w : List ℕ) (b : S) → P a → T a w b → U a w b × P b) → {a b : S} {w : List ℕ} → P a → Path T a w b → Path U a w b × P b
path_kept P f h stays = (stays, h)
path_kept P f h (goes {a = a} {b = b} {u = u} t p e) =
    let k = f a u b h t in
    let r = path_kept P f k.1 p in
    (goes k.0 r.0 e, r.1)
