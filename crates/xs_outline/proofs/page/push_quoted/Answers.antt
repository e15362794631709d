use Rattle.std.proofs.Common.{sym, subst}
use Rattle.std.specs.Char.{IsScalar}
use Rattle.std.proofs.lemmas.Result.{on_ok_weaker}
use Rattle.xs_outline.proofs.Pages.{scalar_at, page_step, page_quoted}
use Rattle.xs_outline.proofs.page.push_quoted.Goals as goal

pub character-requires : goal.character-requires
character-requires c =
    subst IsScalar (sym c.symbol-item.is) (scalar_at c.args.word.now c.symbols.symbol-index _ c.requires c.symbols-test.true)

pub symbols-preserved : goal.symbols-preserved
symbols-preserved c =
    page_step c.symbols.page c.push_quoted_character.new.page _ c.args.word.now c.symbols.symbol-index c.character.result c.symbol-item.result
    c.symbols-test.true c.symbol-item.is c.character.ensures c.symbols.invariant c.in_ok-push_quoted_character.ensures.ok

pub returns : goal.returns
returns c =
    on_ok_weaker _ (λ last. page_quoted c.args.page.now c.push.new.self c.symbols.page c.push-2.new.self c.args.word.now c.symbols.symbol-index c.symbols-test.false c.in_ok-push.ensures.ok c.symbols.invariant last) c.push-2.ensures.ok
