-- The bytes of a sheet, where they are known, are the only ones.
use Rattle.std.proofs.Common.{◌≡◌, ◌∙◌, ℕ, List, length, None, Some, sym, subst, ap, arith}
use Rattle.std.proofs.lemmas.Option.{same_Some}
use Rattle.xs_io.specs.Shown.{Files}
use Rattle.xs_words.specs.Command.{Sheet as Named, leiden, leiden2, file}
use Rattle.xs_pair.specs.Grammars.{Pair}
use Rattle.xs_top.specs.Known.{HasBytes}
use Rattle.xs_top.specs.Sheets.{AreBytesOf, IsLong, IsPairOfBytes, SpellsPair}

pub has_only : (files : Files) (named : Named) (bytes other : List ℕ) → HasBytes files named bytes → AreBytesOf files named other → other ≡ bytes
has_only files leiden bytes other has are = are ∙ sym has
has_only files leiden2 bytes other has are = are ∙ sym has
has_only None (file name) bytes other has are = absurd has
has_only (Some files) (file name) bytes other has are = same_Some other bytes (sym are.0 ∙ has.0)

pub has_short : (files : Files) (named : Named) (bytes : List ℕ) → HasBytes files named bytes → IsLong files named → ⊥
has_short files leiden bytes has long = long
has_short files leiden2 bytes has long = long
has_short None (file name) bytes has long = has
has_short (Some files) (file name) bytes has (other, is, long) =
    let same : length other ≡ length bytes = ap (λ (xs : List ℕ). length xs) (same_Some other bytes (sym is ∙ has.0)) in
    omega (arith, same, long, has.1)

-- grammars that the sheet spells are those of the bytes
pub spelled_pair : (files : Files) (named : Named) (bytes : List ℕ) (p : Pair) → HasBytes files named bytes → SpellsPair files named p → IsPairOfBytes bytes p
spelled_pair files named bytes p has spells = subst (λ (b : List ℕ). IsPairOfBytes b p) (has_only files named bytes spells.bytes has spells.are) spells.is
