-- What steps of reading find: the rows of a set and the title after them, and the sets of a cut.
use Rattle.std.specs.Prelude.{◌≡◌, ℕ, ◌+◌, List, [], ◌∷◌, ◌++◌, Option, None, Some, nat_eq, if◌then◌else◌, codes}
use Rattle.xs_auto.specs.Nets.{Graph}
use Rattle.xs_cert_lines.specs.Lines.{Lines, set_lines}
use Rattle.xs_closed.specs.Rows.{Grid, Row, IsSized, IsSet, rows_of}
use Rattle.xs_closed.specs.declared.sets.CutSets.{CutSets}
use Rattle.xs_cert_laws.specs.Blocks.{ShowsClear}
use Rattle.xs_cert.specs.declared.place.Place.{Place}
use Rattle.xs_cert.specs.declared.place.Reading.{Reading}
use Rattle.xs_cert.specs.declared.place.Reading.TheVariants.{Whole, Broken}
use Rattle.xs_cert.specs.Places.{IsPast, Stand}
use Rattle.xs_cert.specs.Rows.{IsRowsReading}

-- where rows were read whole, or how many of them are right
abbrev pub part_of : Place → Place → Option ℕ → Option Reading
part_of start end None = None
part_of start end (Some n) = Some (if nat_eq (start.lines + n) end.lines then Whole end else Broken (start.lines + n))

-- the rows of the table and the title stand there, and no other rows of such a set with that title
abbrev pub IsTitledSet : List ℕ → Place → List ℕ → ℕ → ℕ → Grid → Option Place → Type 0
IsTitledSet bytes p title high wide z None = (rs : List Row) (later : Lines) → IsSet high wide rs → Stand bytes p (set_lines rs ++ title ∷ later) → ⊥
IsTitledSet bytes p title high wide z (Some q) = IsSized high wide z × IsPast bytes p (set_lines (rows_of z) ++ title ∷ []) q × ((rs : List Row) (later : Lines) → IsSet high wide rs → Stand bytes p (set_lines rs ++ title ∷ later) → rs ≡ rows_of z)

-- the lines of the first three sets of a cut, up to the title of the fourth, and then others
abbrev pub before_rests : List Row → List Row → List Row → Lines → Lines
before_rests z1 z0 z2 later = codes "set 1" ∷ (set_lines z1 ++ codes "set 0" ∷ (set_lines z0 ++ codes "set 2" ∷ (set_lines z2 ++ codes "set 3" ∷ later)))

-- three sets for nets of that many states
pub record AreThree (f e : ℕ) (z1 z0 z2 : List Row) : Type 0 where
  pub fronts : IsSet f f z1
  pub pauses : IsSet f e z0
  pub middles : IsSet f e z2

-- the first three sets stand there, and no others
pub record HasThree (bytes : List ℕ) (p : Place) (f e : ℕ) (s : CutSets) (q : Place) : Type 0 where
  pub fronts : IsSized f f s.fronts
  pub pauses : IsSized f e s.pauses
  pub middles : IsSized f e s.middles
  pub past : IsPast bytes p (before_rests (rows_of s.fronts) (rows_of s.pauses) (rows_of s.middles) []) q
  pub only : (z1 z0 z2 : List Row) (later : Lines) → AreThree f e z1 z0 z2 → Stand bytes p (before_rests z1 z0 z2 later) → (z1 ≡ rows_of s.fronts) × (z0 ≡ rows_of s.pauses) × (z2 ≡ rows_of s.middles)

abbrev pub AreFirstSets : List ℕ → Place → ℕ → ℕ → CutSets → Option Place → Type 0
AreFirstSets bytes p f e s None = (z1 z0 z2 : List Row) (later : Lines) → AreThree f e z1 z0 z2 → Stand bytes p (before_rests z1 z0 z2 later) → ⊥
AreFirstSets bytes p f e s (Some q) = HasThree bytes p f e s q

-- the sets of a cut stand there, the last as far as it is right, and no others are right
pub record AreCutSets (R : ℕ → ℕ → Type 0) (f e : Graph) (bytes : List ℕ) (p : Place) (r : Reading) : Type 0 where
  pub fronts : List Row
  pub pauses : List Row
  pub middles : List Row
  pub place : Place
  pub past : IsPast bytes p (before_rests fronts pauses middles []) place
  pub rests : IsRowsReading (ShowsClear R f e fronts pauses middles) bytes place (Some r)
  pub only : (z1 z0 z2 z3 : List Row) → ShowsClear R f e z1 z0 z2 z3 → Stand bytes p (before_rests z1 z0 z2 (set_lines z3)) → (z1 ≡ fronts) × (z0 ≡ pauses) × (z2 ≡ middles)

abbrev pub IsCutReading : (ℕ → ℕ → Type 0) → Graph → Graph → List ℕ → Place → Option Reading → Type 0
IsCutReading R f e bytes p None = (z1 z0 z2 z3 : List Row) → ShowsClear R f e z1 z0 z2 z3 → Stand bytes p (before_rests z1 z0 z2 (set_lines z3)) → ⊥
IsCutReading R f e bytes p (Some r) = AreCutSets R f e bytes p r
