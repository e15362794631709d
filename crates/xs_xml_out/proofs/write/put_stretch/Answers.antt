use Rattle.std.proofs.Common.{ℕ, List, arith, subst, string_bytes}
use Rattle.std.proofs.lemmas.List.{take_all}
use Rattle.xs_xml_out.specs.Written.{IsAppended}
use Rattle.xs_xml_out.proofs.Appended.{appended_more, appended_none}
use Rattle.xs_xml_out.proofs.write.put_stretch.Goals as goal

pub symbols-init : goal.symbols-init
symbols-init c = appended_none c.args.tags.now c.args.from (string_bytes c.args.out.now)

pub symbols-preserved : goal.symbols-preserved
symbols-preserved c =
    appended_more c.args.tags.now c.args.from c.symbols.mode c.after-mode.result c.symbol_kind-kind.result c.args.symbols.now (string_bytes c.args.out.now) (string_bytes c.symbols.out) (string_bytes c.put_symbol.new.out) c.symbols.symbol-index c.symbol-item.result
    c.symbols-test.true c.symbol-item.is c.symbol_kind-kind.ensures c.in_ok-put_symbol.ensures c.after-mode.ensures c.symbols.invariant

pub returns : goal.returns
returns c =
    subst (λ (w : List ℕ). IsAppended c.args.tags.now c.args.from w (string_bytes c.args.out.now) (string_bytes c.symbols.out) c.symbols.mode) (take_all c.symbols.symbol-index c.args.symbols.now (omega arith)) c.symbols.invariant
