use Rattle.std.proofs.Common.{◌∙◌, ◌++◌, ◌+◌, ◌≡◌, ap, arith, subst, drop, List, ℕ, encode_utf8, encode_utf8_all}
use Rattle.std.specs.Char.{IsScalar}
use Rattle.xs_chars.proofs.Characters.{encodes_next, four_at_most, scalars_more}
use Rattle.xs_chars.proofs.reserved.put_each.Goals as goal

pub put_character-requires : goal.put_character-requires
put_character-requires c =
    let few = four_at_most c.in-Some.character in
    omega (arith, few, c.symbols.invariant.room, c.symbols-test.true)

pub symbols-preserved : goal.symbols-preserved
symbols-preserved c =
    let few = four_at_most c.in-Some.character in
    let same : c.in-Some.character ≡ c.symbol-item.result = c.in-Some.ensures.value.1 ∙ c.number.ensures in
    let scalar = subst IsScalar c.number.ensures c.in-Some.ensures.value.0 in
    let rest = encode_utf8_all (drop (c.symbols.symbol-index + 1) c.args.symbols.now) in
    record {
      characters = scalars_more c.args.symbols.now c.symbols.symbol-index c.symbol-item.result c.symbols-test.true c.symbol-item.is scalar c.symbols.invariant.characters;
      so_far = ap (λ (l : List ℕ). l ++ rest) (c.put_character.ensures.put ∙ ap (λ d. c.symbols.bytes.items ++ encode_utf8 d) same)
          ∙ encodes_next c.args.symbols.now c.symbols.bytes.items c.symbols.symbol-index c.symbol-item.result c.symbols-test.true c.symbol-item.is
          ∙ c.symbols.invariant.so_far;
      room = omega (arith, few, c.symbols.invariant.room, c.symbols-test.true, c.put_character.ensures.len, c.put_character.ensures.room);
    }
