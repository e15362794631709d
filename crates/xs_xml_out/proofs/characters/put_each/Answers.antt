use Rattle.std.proofs.Common.{◌≡◌, ◌∙◌, ◌++◌, [], ℕ, List, encode_utf8_all, arith, ap, subst, sym}
use Rattle.std.specs.Char.{IsScalar}
use Rattle.std.proofs.lemmas.List.{take_all}
use Rattle.xs_chars.proofs.Characters.{scalars_more}
use Rattle.xs_xml_out.specs.declared.kind.SymbolKind.TheVariants.{Char}
use Rattle.xs_xml_out.specs.declared.mode.Mode.{Mode}
use Rattle.xs_xml_out.specs.Spelling.{mode_of}
use Rattle.xs_xml_out.specs.Written.{put, IsAppended}
use Rattle.xs_xml_out.proofs.Appended.{appended_char}
use Rattle.xs_xml_out.proofs.characters.put_each.Goals as goal

pub symbols-preserved : goal.symbols-preserved
symbols-preserved c =
    let same : c.in_ok-c.c ≡ c.symbol-item.result = c.in_ok-c.ensures.value.1 ∙ c.number.ensures in
    let scalar = subst IsScalar c.number.ensures c.in_ok-c.ensures.value.0 in
    let put_is = c.put_reserved.ensures.put ∙ ap (λ (l : List ℕ). c.symbols.out.items ++ l) (c.body_of.ensures.written ∙ ap (λ n. encode_utf8_all (put [] (mode_of c.args.in_value) (Char n))) same) in
    record {
      characters = scalars_more c.args.word.now c.symbols.symbol-index c.symbol-item.result c.symbols-test.true c.symbol-item.is scalar c.symbols.invariant.characters;
      so_far = λ names. appended_char names c.args.in_value c.args.word.now c.args.out.now.items c.symbols.out.items c.put_reserved.new.out.items c.symbols.symbol-index c.symbol-item.result c.symbols-test.true c.symbol-item.is scalar put_is (c.symbols.invariant.so_far names);
      room = omega (arith, c.symbols.invariant.room, c.symbols-test.true, c.put_reserved.ensures.len, c.put_reserved.ensures.room);
    }

pub returns-clause-put : goal.returns-clause-put
returns-clause-put c = λ names.
    subst (λ (m : Mode). IsAppended names (mode_of c.args.in_value) c.args.word.now c.args.out.now.items c.symbols.out.items m) (sym c.mode_of.ensures)
    (subst (λ (w : List ℕ). IsAppended names (mode_of c.args.in_value) w c.args.out.now.items c.symbols.out.items (mode_of c.args.in_value)) (take_all c.symbols.symbol-index c.args.word.now (omega arith)) (c.symbols.invariant.so_far names))
