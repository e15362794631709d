use Rattle.std.proofs.Common.{chars, refl}
use Rattle.unicode_normalization.proofs.IterLemmas.{Spells-chars}
use Rattle.xs_chars.proofs.form.put_into.Goals as goal

pub returns-in-Yes : goal.returns-in-Yes
returns-in-Yes c = rw c.in-Nfc.is (c.in-Yes.ensures.yes (chars c.args.text.now) (Spells-chars c.chars.result _ c.utf8.text c.chars.ensures.rest) refl)

pub returns-in-Yes-is_nfd_quick : goal.returns-in-Yes-is_nfd_quick
returns-in-Yes-is_nfd_quick c = rw c.in-Nfd.is (c.in-Yes-is_nfd_quick.ensures.yes (chars c.args.text.now) (Spells-chars c.chars-in-Nfd.result _ c.utf8.text c.chars-in-Nfd.ensures.rest) refl)
