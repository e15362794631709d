-- What the code reads as an item of a set.
use Rattle.xs_regex.specs.declared.characters.Piece.{Piece}
use Rattle.xs_regex.specs.declared.characters.Piece.TheVariants.{Span, Named}
use Rattle.xs_regex.specs.Characters.{Item, span, named}

abbrev pub item_of : Piece → Item
item_of (Span low high) = span low high
item_of (Named letters) = named letters.now
