-- What was read of a certificate.
use Rattle.std.specs.Prelude.{◌≡◌, ℕ, ◌+◌, List, [], ◌++◌, length, map, flat_map}
use Rattle.std.specs.List.{All}
use Rattle.xs_auto.specs.Nests.{Group}
use Rattle.xs_gram.specs.Grammar.{Grammar}
use Rattle.xs_cert_lines.specs.Lines.{Lines}
use Rattle.xs_cert_laws.specs.Blocks.{Head, Block, head, IsRight, block_lines}
use Rattle.xs_cert.specs.declared.place.Place.{Place}
use Rattle.xs_cert.specs.declared.place.Reading.{Reading}
use Rattle.xs_cert.specs.declared.place.Reading.TheVariants.{Whole, Broken}
use Rattle.xs_cert.specs.Places.{IsPast, Stand}
use Rattle.xs_cert.specs.Ways.{Tail, TailWays, LeadsTo, EndsBy, BlockWays}

-- the lines of right blocks for these heads, but for the last, `more`
pub record AreRead (g : Grammar) (nest : List Group) (R : ℕ → ℕ → Type 0) (hs more : List Head) (ls : Lines) : Type 0 where
  pub blocks : List Block
  pub order : map head blocks ++ more ≡ hs
  pub right : All (IsRight g nest R) blocks
  pub lines : ls ≡ flat_map block_lines blocks

-- right blocks for all of these heads stand between the two places, and whatever comes at the first
-- with blocks for them and for more heads goes on from the second, if it goes so far
pub record AreWhole (g : Grammar) (nest : List Group) (R : ℕ → ℕ → Type 0) (bytes : List ℕ) (p : Place) (hs : List Head) (q : Place) : Type 0 where
  pub lines : Lines
  pub past : IsPast bytes p lines q
  pub read : AreRead g nest R hs [] lines
  pub leads : (tail : Tail) (later : List Head) → LeadsTo bytes p (BlockWays g nest R (TailWays tail) (hs ++ later)) q (BlockWays g nest R (TailWays tail) later)

-- right blocks for the first of these heads stand at the place, up to that many lines, and whatever
-- comes there with blocks for them and for more heads ends by then
pub record AreBroken (g : Grammar) (nest : List Group) (R : ℕ → ℕ → Type 0) (bytes : List ℕ) (p : Place) (hs : List Head) (most : ℕ) : Type 0 where
  pub lines : Lines
  pub more : List Head
  pub stand : Stand bytes p lines
  pub count : most ≡ p.lines + length lines
  pub read : AreRead g nest R hs more lines
  pub ends : (tail : Tail) (later : List Head) → EndsBy bytes p (BlockWays g nest R (TailWays tail) (hs ++ later)) most

-- how far blocks for these heads were read from a place on
abbrev pub IsReading : Grammar → List Group → (ℕ → ℕ → Type 0) → List ℕ → Place → List Head → Reading → Type 0
IsReading g nest R bytes p hs (Whole q) = AreWhole g nest R bytes p hs q
IsReading g nest R bytes p hs (Broken most) = AreBroken g nest R bytes p hs most
