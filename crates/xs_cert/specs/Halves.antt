-- Sides of a certificate that were read, and the certificate.
use Rattle.std.specs.Prelude.{◌≡◌, ℕ, ◌+◌, List, [], length, codes}
use Rattle.xs_gram.specs.Grammar.{Grammar}
use Rattle.xs_pair.specs.Grammars.{Pair}
use Rattle.xs_cert_lines.specs.Lines.{Lines}
use Rattle.xs_cert_laws.specs.Blocks.{Head}
use Rattle.xs_cert_laws.specs.Certificates.{Half, IsHalf, half_lines, text_lines, all_lines, Front}
use Rattle.xs_cert.specs.declared.place.Place.{Place}
use Rattle.xs_cert.specs.declared.place.Reading.{Reading}
use Rattle.xs_cert.specs.declared.place.Reading.TheVariants.{Whole, Broken}
use Rattle.xs_cert.specs.Places.{IsPast, Stand}
use Rattle.xs_cert.specs.Ways.{Tail, at_end, at_xml, TailWays, LeadsTo, EndsBy, HalfWays, AfterLine}

-- a side whose blocks are all right stands between the two places, and whatever comes at the first
-- with a side goes on from the second, if it goes so far
pub record IsWholeHalf (g : Grammar) (bytes : List ℕ) (p q : Place) : Type 0 where
  pub half : Half
  pub is : IsHalf g half []
  pub past : IsPast bytes p (half_lines half) q
  pub leads : (tail : Tail) → LeadsTo bytes p (HalfWays g (TailWays tail)) q (TailWays tail)

-- the front of a side stands at the place, up to that many lines, and whatever comes there with a
-- side ends by then
pub record IsBrokenHalf (g : Grammar) (bytes : List ℕ) (p : Place) (most : ℕ) : Type 0 where
  pub half : Half
  pub more : List Head
  pub is : IsHalf g half more
  pub stand : Stand bytes p (half_lines half)
  pub count : most ≡ p.lines + length (half_lines half)
  pub ends : (tail : Tail) → EndsBy bytes p (HalfWays g (TailWays tail)) most

abbrev pub IsHalfReading : Grammar → List ℕ → Place → Reading → Type 0
IsHalfReading g bytes p (Whole q) = IsWholeHalf g bytes p q
IsHalfReading g bytes p (Broken most) = IsBrokenHalf g bytes p most

-- what may come of a certificate or of a good front, from the first line on
abbrev pub AllWays : Pair → Lines → List ℕ → ℕ → Type 0
AllWays p = AfterLine (codes "xsugar-cert-1") (AfterLine (codes "side text") (HalfWays p.text (TailWays (at_xml p.xml))))

-- the first byte
abbrev pub start : Place
start = record { byte = 0; lines = 0 }

-- the text side stands before the place, or all of both sides does
pub record IsTextRead (p : Pair) (bytes : List ℕ) (q : Place) : Type 0 where
  pub text : Half
  pub is_text : IsHalf p.text text []
  pub past : IsPast bytes start (text_lines text) q
  pub leads : LeadsTo bytes start (AllWays p) q (TailWays (at_xml p.xml))

pub record IsAllRead (p : Pair) (bytes : List ℕ) (q : Place) : Type 0 where
  pub text : Half
  pub xml : Half
  pub is_text : IsHalf p.text text []
  pub is_xml : IsHalf p.xml xml []
  pub past : IsPast bytes start (all_lines text xml) q
  pub leads : LeadsTo bytes start (AllWays p) q (TailWays at_end)

-- a good front of that many lines stands at the first byte, and whatever comes there ends by then
pub record IsFrontRead (p : Pair) (bytes : List ℕ) (most : ℕ) : Type 0 where
  pub lines : Lines
  pub front : Front p lines
  pub stand : Stand bytes start lines
  pub count : most ≡ length lines
  pub ends : EndsBy bytes start (AllWays p) most

abbrev pub IsTextReading : Pair → List ℕ → Reading → Type 0
IsTextReading p bytes (Whole q) = IsTextRead p bytes q
IsTextReading p bytes (Broken most) = IsFrontRead p bytes most

abbrev pub IsAllReading : Pair → List ℕ → Reading → Type 0
IsAllReading p bytes (Whole q) = IsAllRead p bytes q
IsAllReading p bytes (Broken most) = IsFrontRead p bytes most
