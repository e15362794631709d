use Rattle.std.proofs.Common.{arith}
use Rattle.xs_chars.proofs.Characters.{four_at_most}
use Rattle.xs_xml_out.proofs.characters.put_reserved.Goals as goal

pub put_character-requires : goal.put_character-requires
put_character-requires c = let few = four_at_most c.in-Single.c in omega (arith, few, c.requires.fits)

pub returns-in-Single-clause-len : goal.returns-in-Single-clause-len
returns-in-Single-clause-len c = let few = four_at_most c.in-Single.c in omega (arith, few, c.put_character.ensures.len)
