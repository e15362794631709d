use Rattle.std.proofs.Common.{sym}
use Rattle.std.proofs.lemmas.Str.{encodes-chars}
use Rattle.xs_class.proofs.text.Text.as_str.Goals as goal

pub returns-clause-spelled : goal.returns-clause-spelled
returns-clause-spelled c = rw (← c.self.view_is, ← c.as_str.ensures.value) (sym (encodes-chars _ c.as_str.utf8))
