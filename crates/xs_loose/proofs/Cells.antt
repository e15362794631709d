-- Paths over states that are laid out in cells, one for each place, lead from place to place.
use Rattle.std.proofs.Common.{◌≡◌, ◌⊎◌, inl, inr, ℕ, suc, ◌<◌, ◌≤◌, List, [], ◌∷◌, ◌++◌, refl, sym, ap, subst, ◌∙◌, arith, append_assoc, append-nil}
use Rattle.xs_gram.specs.Loose.{Spot}
use Rattle.xs_loose.specs.Arcs.{Arc}
use Rattle.xs_loose.proofs.Among.{Among, front, further, nothing}
use Rattle.xs_loose.proofs.Paths.{Path, stays, goes, path_on, path_one, path_snoc}

-- The states from `low` on and below `high`, one of which is that of the place `target`. They are
-- reached from the state `before`, which is that of the place `source`, by the arcs.
pub record Cell : Type 0 where
  pub source : Spot
  pub target : Spot
  pub before : ℕ
  pub state : ℕ
  pub low : ℕ
  pub high : ℕ
  pub arcs : List Arc

abbrev pub IsIn : Cell → ℕ → Type 0
IsIn z a = (z.low ≤ a) × (a < z.high)

-- a cell of one state, which no arcs of its own lead to
abbrev pub point : Spot → ℕ → Cell
point x a = record { source = x; target = x; before = a; state = a; low = a; high = suc a; arcs = [] }

-- the cells follow one another
abbrev pub Chain : ℕ → List Cell → ℕ → Type 0
Chain low [] high = low ≡ high
Chain low (z ∷ zs) high = (z.low ≡ low) × (z.low ≤ z.high) × Chain z.high zs high

pub chain_rises : (low high : ℕ) (cells : List Cell) → Chain low cells high → low ≤ high
chain_rises low high [] h = omega (arith, h)
chain_rises low high (z ∷ zs) h = let k = chain_rises z.high high zs h.2 in omega (arith, h.0, h.1, k)

pub chain_within : (low high : ℕ) (cells : List Cell) (z : Cell) → Chain low cells high → Among cells z → (low ≤ z.low) × (z.high ≤ high)
chain_within low high [] z h p = absurd (nothing p)
chain_within low high (y ∷ ys) z h (front e) =
    let k = chain_rises y.high high ys h.2 in
    subst (λ (x : Cell). (low ≤ x.low) × (x.high ≤ high)) e (omega (arith, h.0), k)
chain_within low high (y ∷ ys) z h (further p) =
    let k = chain_within y.high high ys z h.2 p in
    (omega (arith, h.0, h.1, k.0), k.1)

pub chain_once : (low high : ℕ) (cells : List Cell) (y z : Cell) (a : ℕ) → Chain low cells high → Among cells y → Among cells z → IsIn y a → IsIn z a → y ≡ z
chain_once low high [] y z a h p q i j = absurd (nothing p)
chain_once low high (x ∷ xs) y z a h (front e) (front e') i j = sym e ∙ e'
chain_once low high (x ∷ xs) y z a h (front e) (further q) i j =
    let k = chain_within x.high high xs z h.2 q in
    let i' : IsIn x a = subst (λ (c : Cell). IsIn c a) (sym e) i in
    absurd (omega (arith, k.0, i'.1, j.0))
chain_once low high (x ∷ xs) y z a h (further p) (front e) i j =
    let k = chain_within x.high high xs y h.2 p in
    let j' : IsIn x a = subst (λ (c : Cell). IsIn c a) (sym e) j in
    absurd (omega (arith, k.0, j'.1, i.0))
chain_once low high (x ∷ xs) y z a h (further p) (further q) i j = chain_once x.high high xs y z a h.2 p q i j

pub chain_on : (low middle high : ℕ) (cells more : List Cell) → Chain low cells middle → Chain middle more high → Chain low (cells ++ more) high
chain_on low middle high [] more h k = subst (λ (n : ℕ). Chain n more high) (sym h) k
chain_on low middle high (z ∷ zs) more h k = (h.0, h.1, chain_on z.high middle high zs more h.2 k)

module _ (T : List Arc → ℕ → List ℕ → ℕ → Type 0) (Go : Spot → List ℕ → Spot → Type 0) (empty : (a : ℕ) (w : List ℕ) (b : ℕ) → T [] a w b → ⊥) where
  -- the state of the place is one of the cell's, its arcs lead from the state before or from within into
  -- it, and what they read through to the place's state leads to the place
  pub record IsFine (z : Cell) : Type 0 where
    pub inside : IsIn z z.state
    pub from : (a : ℕ) (w : List ℕ) (b : ℕ) → T z.arcs a w b → (a ≡ z.before) ⊎ IsIn z a
    pub to : (a : ℕ) (w : List ℕ) (b : ℕ) → T z.arcs a w b → IsIn z b
    pub through : (w : List ℕ) → Path (T z.arcs) z.before w z.state → Path Go z.source w z.target

  pub point_fine : (x : Spot) (a : ℕ) → IsFine (point x a)
  point_fine x a = record { inside = (omega arith, omega arith); from = λ b w c t. absurd (empty b w c t); to = λ b w c t. absurd (empty b w c t); through = through }
    where
      through : {b : ℕ} (w : List ℕ) → Path (T []) a w b → Path Go x w x
      through w stays = stays
      through w (goes t p e) = absurd (empty _ _ _ t)

  -- an arc leads from a cell's state to that of a cell without arcs, or stands in a cell
  pub data LaidArc (P : Cell → Type 0) (a : ℕ) (w : List ℕ) (b : ℕ) : Type 0 where
    jumps : (y z : Cell) → P y → P z → z.arcs ≡ [] → a ≡ y.state → b ≡ z.state → Go y.target w z.target → LaidArc P a w b
    rests : (z : Cell) → P z → T z.arcs a w b → LaidArc P a w b

  -- the cell before a cell with arcs
  pub record CellBefore (P : Cell → Type 0) (z : Cell) : Type 0 where
    pub cell : Cell
    pub is : P cell
    pub state : cell.state ≡ z.before
    pub target : cell.target ≡ z.source

  pub record AreCells (P : Cell → Type 0) (all : List Arc) : Type 0 where
    pub fine : (z : Cell) → P z → IsFine z
    pub once : (y z : Cell) (a : ℕ) → P y → P z → IsIn y a → IsIn z a → y ≡ z
    pub before : (z : Cell) (a : ℕ) (w : List ℕ) (b : ℕ) → P z → T z.arcs a w b → CellBefore P z
    pub laid : (a : ℕ) (w : List ℕ) (b : ℕ) → T all a w b → LaidArc P a w b

  module _ (P : Cell → Type 0) (all : List Arc) (are : AreCells P all) (first : Spot) where
    -- where the words lead that were read from the first place on
    data Held (a : ℕ) (v : List ℕ) : Type 0 where
      direct : (z : Cell) → P z → z.arcs ≡ [] → a ≡ z.state → Path Go first v z.target → Held a v
      within : (z : Cell) (u r : List ℕ) → P z → Path Go first u z.source → Path (T z.arcs) z.before r a → IsIn z a → v ≡ u ++ r → Held a v

    trail_as : {x : Spot} {v w : List ℕ} → w ≡ v → Path Go first v x → Path Go first w x
    trail_as {x} e p = subst (λ (l : List ℕ). Path Go first l x) (sym e) p

    in_as : (z : Cell) {a b : ℕ} → a ≡ b → IsIn z b → IsIn z a
    in_as z e h = subst (λ (n : ℕ). IsIn z n) (sym e) h

    arrived : {a : ℕ} {v : List ℕ} (x : Cell) → P x → a ≡ x.state → Held a v → Path Go first v x.target
    arrived {a} {v} x px here (direct z pz none at p) =
        let same : z ≡ x = are.once z x a pz px (in_as z at (are.fine z pz).inside) (in_as x here (are.fine x px).inside) in
        subst (λ (y : Cell). Path Go first v y.target) same p
    arrived {a} {v} x px here (within z u r pz p q stands e) =
        let same : z ≡ x = are.once z x a pz px stands (in_as x here (are.fine x px).inside) in
        let end : a ≡ z.state = here ∙ ap (λ (y : Cell). y.state) (sym same) in
        let on : Path Go z.source r z.target = (are.fine z pz).through r (subst (λ (n : ℕ). Path (T z.arcs) z.before r n) end q) in
        subst (λ (y : Cell). Path Go first v y.target) same (trail_as e (path_on p on))

    in_cell : {a b : ℕ} {v w : List ℕ} (z : Cell) → P z → IsIn z a → T z.arcs a w b → Held a v → Held b (v ++ w)
    in_cell {a} {b} {v} {w} z pz here t (direct x px none at p) =
        let same : x ≡ z = are.once x z a px pz (in_as x at (are.fine x px).inside) here in
        absurd (empty a w b (subst (λ (l : List Arc). T l a w b) none (subst (λ (y : Cell). T y.arcs a w b) (sym same) t)))
    in_cell {a} {b} {v} {w} z pz here t (within x u r px p q stands e) =
        let same : x ≡ z = are.once x z a px pz stands here in
        let moved : T x.arcs a w b = subst (λ (y : Cell). T y.arcs a w b) (sym same) t in
        within x u (r ++ w) px p (path_snoc q moved) ((are.fine x px).to a w b moved) (ap (λ (l : List ℕ). l ++ w) e ∙ append_assoc u r w)

    held_on : {a b : ℕ} {v w : List ℕ} → Held a v → LaidArc P a w b → Held b (v ++ w)
    held_on h (jumps y z py pz none p q go) = direct z pz none q (path_snoc (arrived y py p h) go)
    held_on {a} {b} {v} {w} h (rests z pz t) = elim ((are.fine z pz).from a w b t) [
      | inl e ↦
          let c = are.before z a w b pz t in
          let p : Path Go first v z.source = subst (λ (x : Spot). Path Go first v x) c.target (arrived c.cell c.is (e ∙ sym c.state) h) in
          within z v w pz p (path_one (subst (λ (n : ℕ). T z.arcs n w b) e t)) ((are.fine z pz).to a w b t) refl
      | inr here ↦ in_cell z pz here t h
    ]

    held_path : {a b : ℕ} {v w : List ℕ} → Held a v → Path (T all) a w b → Held b (v ++ w)
    held_path {a} {v = v} h stays = subst (λ (l : List ℕ). Held a l) (sym (append-nil v)) h
    held_path {b = b} {v = v} h (goes {a = a} {b = m} {u = x} {v = y} t p e) = subst (λ (l : List ℕ). Held b l) (append_assoc v x y ∙ ap (λ (l : List ℕ). v ++ l) (sym e)) (held_path (held_on h (are.laid a x m t)) p)

  -- a path between the states of cells is one over their places
  pub cells_reached : (P : Cell → Type 0) (all : List Arc) → AreCells P all → (y z : Cell) (w : List ℕ) → P y → y.arcs ≡ [] → P z → Path (T all) y.state w z.state → Path Go y.target w z.target
  cells_reached P all are y z w py none pz p = arrived P all are y.target z pz refl (held_path P all are y.target (direct y py none refl stays) p)
