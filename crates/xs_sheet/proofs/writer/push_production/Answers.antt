use Rattle.xs_sheet.specs.Outline.{content_of}
use Rattle.xs_sheet.specs.Layout.{items_words, content_words}
use Rattle.xs_sheet.proofs.Spaced.{production_on}
use Rattle.xs_sheet.proofs.Strings.{on_ok}
use Rattle.xs_sheet.proofs.writer.push_production.Goals as goal

pub returns : goal.returns
returns c =
    on_ok _ _ _ (production_on c.args.page.now c.push_text.new.self c.push_word.new.page c.push_items.new.page c.push_word-2.new.page c.push_content.new.page c.args.name.now (items_words c.args.left.now) (content_words (content_of c.args.right.now)) c.in_ok-push_text.ensures.ok c.in_ok-push_word.ensures c.in_ok-push_items.ensures c.in_ok-push_word-2.ensures) c.push_content.ensures
