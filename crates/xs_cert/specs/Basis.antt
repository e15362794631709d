-- What the blocks of a side are read by.
use Rattle.std.specs.Prelude.{List}
use Rattle.xs_meet.specs.Closed.{Marked}
use Rattle.xs_loose.specs.Nets.{IsNestOf}
use Rattle.xs_searches.specs.Spaces.{IsSite}
use Rattle.xs_closed.specs.Rows.{marked}
use Rattle.xs_cert_laws.specs.Blocks.{Head}
use Rattle.xs_cert.specs.declared.place.Place.{Place}
use Rattle.xs_cert.specs.declared.place.Reading.{Reading}
use Rattle.xs_cert.specs.declared.basis.Basis.{Basis}
use Rattle.xs_cert.specs.Places.{IsPlace}
use Rattle.xs_cert.specs.Readings.{IsReading}

-- a grammar whose rules are light, with its nest
pub record IsBasis (b : Basis) : Type 0 where
  pub site : IsSite b.site
  pub nest : IsNestOf b.site.g.now b.nest.now

-- the place is in the bytes
abbrev pub IsIn : Basis → Place → Type 0
IsIn b p = IsPlace b.bytes.now p

-- how far blocks for these heads were read from a place on
abbrev pub AreReadBy : Basis → Place → List Head → Reading → Type 0
AreReadBy b p hs r = IsReading b.site.g.now b.nest.now (Marked (marked b.related.now)) b.bytes.now p hs r
