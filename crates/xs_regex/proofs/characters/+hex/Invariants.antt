use Rattle.std.proofs.Common.{length}
use Rattle.xs_regex.proofs.characters.+hex.Given as goal

abbrev pub decreases-hex : goal.decreases-hex
decreases-hex l = length l.cs.now
