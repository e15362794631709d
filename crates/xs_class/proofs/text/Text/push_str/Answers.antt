use Rattle.std.proofs.Common.{◌∙◌, ap}
use Rattle.std.specs.Str.{chars}
use Rattle.std.specs.String.{string_bytes}
use Rattle.std.proofs.lemmas.Str.{chars-append, IsUtf8-string_bytes}
use Rattle.xs_class.proofs.text.Text.push_str.Goals as goal

pub returns-clause-ok : goal.returns-clause-ok
returns-clause-ok c =
    let old = string_bytes c.self.inside.text in
    rw (← c.self.view_is) (ap chars c.in_ok-push_str.ensures.bytes ∙ chars-append old c.args.piece.now (IsUtf8-string_bytes c.self.inside.text))
