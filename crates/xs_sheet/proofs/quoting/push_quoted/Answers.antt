use Rattle.std.proofs.Common.{◌∙◌}
use Rattle.std.proofs.lemmas.Iterator.{YieldsList-from_chars}
use Rattle.std.proofs.lemmas.Iterator.Consumers.{YieldsList-end}
use Rattle.xs_sheet.proofs.Strings.{page_more, page_quoted, on_ok}
use Rattle.xs_sheet.proofs.quoting.push_quoted.Goals as goal

pub characters-preserved : goal.characters-preserved
characters-preserved c = page_more c.push.new.self c.characters.page c.push_quoted_character.new.page c.characters.yielded c.in-Some.c c.characters.invariant c.in_ok-push_quoted_character.ensures.ok

pub returns : goal.returns
returns c =
    let all = YieldsList-end (YieldsList-from_chars c.as_str.result.now c.as_str.utf8 cc) c.characters.yielded _ c.characters.yielded_by _ _ c.in-None.is c.next.ensures.steps in
    on_ok _ _ _ (page_quoted c.args.page.now c.push.new.self c.characters.page c.push-2.new.self c.characters.yielded c.args.text.now (all.0 ∙ c.as_str.ensures.read) c.in_ok-push.ensures.ok c.characters.invariant) c.push-2.ensures.ok
