use Rattle.std.proofs.Common.{◌∙◌, ◌++◌, sym, subst, ap, encode_utf8, List, ℕ}
use Rattle.std.specs.Char.{IsScalar}
use Rattle.xs_chars.proofs.Characters.{scalar_at, encodes_more}
use Rattle.xs_chars.proofs.strings.push_all.Goals as goal

pub push_character-requires : goal.push_character-requires
push_character-requires c = subst IsScalar (sym c.symbol-item.is) (scalar_at c.args.symbols.now c.symbols.symbol-index _ c.requires c.symbols-test.true)

pub symbols-preserved : goal.symbols-preserved
symbols-preserved c =
    c.in_ok-push_character.ensures ∙ ap (λ (l : List ℕ). l ++ encode_utf8 c.symbol-item.result) c.symbols.invariant
    ∙ encodes_more c.args.symbols.now c.args.bytes.now.items c.symbols.symbol-index c.symbol-item.result c.symbols-test.true c.symbol-item.is
