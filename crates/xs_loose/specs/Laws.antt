-- The laws of nets of stretches: a light stretch is laid, and in one way; which words its net accepts over
-- the nest; and that searches over pairs of states may go by the nest.
use Rattle.std.specs.Prelude.{◌≡◌, ◌↔◌, ℕ, suc, ◌≤◌, List}
use Rattle.xs_auto.specs.Nets.{Graph}
use Rattle.xs_auto.specs.Nests.{Group, AcceptsNested, IsTame, IsFenced}
use Rattle.xs_gram.specs.declared.parts.GItem.{GItem}
use Rattle.xs_gram.specs.Grammar.{Grammar}
use Rattle.xs_gram.specs.Sound.{IsBuilt}
use Rattle.xs_gram.specs.Loose.{IsLoose}
use Rattle.xs_check_laws.specs.Weights.{heaviest, PartWeighs}
use Rattle.xs_loose.specs.Arcs.{Arc}
use Rattle.xs_loose.specs.Laying.{LaysPart}
use Rattle.xs_loose.specs.Nets.{IsNumbered, IsNestOf}
use Rattle.xs_loose.specs.Parts.{IsStretch}

-- a light stretch can be laid, and takes as many states as it weighs
abbrev pub LightIsLaid : Type 0
LightIsLaid =
    (g : Grammar) → IsBuilt g → (p k : ℕ) (is : List GItem) → IsStretch g p k is
    → (w : ℕ) → PartWeighs g is w → w ≤ heaviest
    → (arcs : List Arc) × (last : ℕ) × LaysPart g p k is 0 1 arcs last (suc w)

-- it is laid in one way
abbrev pub IsLaidOnce : Type 0
IsLaidOnce =
    (g : Grammar) → IsBuilt g → (p k : ℕ) (is : List GItem) (xs ys : List Arc) (s t m n : ℕ)
    → LaysPart g p k is 0 1 xs s m → LaysPart g p k is 0 1 ys t n → (xs ≡ ys) × (s ≡ t) × (m ≡ n)

-- over the nest of the grammar the net accepts exactly the loose words of the items
abbrev pub AcceptsLooseWords : Grammar → List GItem → Graph → Type 0
AcceptsLooseWords g is n = (nest : List Group) → IsNestOf g nest → (w : List ℕ) → AcceptsNested nest n w ↔ IsLoose g is w

-- over the nest of the grammar the net may be searched
abbrev pub IsSearchable : Grammar → Graph → Type 0
IsSearchable g n = (nest : List Group) → IsNestOf g nest → IsTame nest n

-- over the nest of the grammar, the net of a stretch accepts exactly its loose words
abbrev pub NetsAcceptLoose : Type 0
NetsAcceptLoose =
    (g : Grammar) → IsBuilt g → (nest : List Group) → IsNestOf g nest
    → (p k : ℕ) (is : List GItem) (n : Graph) → IsStretch g p k is → IsNumbered g p k is n
    → (w : List ℕ) → AcceptsNested nest n w ↔ IsLoose g is w

-- the nest of a grammar may be searched
abbrev pub NestsAreFenced : Type 0
NestsAreFenced = (g : Grammar) → IsBuilt g → (nest : List Group) → IsNestOf g nest → IsFenced nest

-- and so may the net of each stretch
abbrev pub NetsAreTame : Type 0
NetsAreTame =
    (g : Grammar) → IsBuilt g → (nest : List Group) → IsNestOf g nest
    → (p k : ℕ) (is : List GItem) (n : Graph) → IsStretch g p k is → IsNumbered g p k is n → IsTame nest n
