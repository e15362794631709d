use Rattle.std.proofs.Common.{◌∙◌, ◌++◌, refl, ap, arith, List, ℕ, length}
use Rattle.xs_chars.proofs.Characters.{two_bytes, three_bytes, four_bytes}
use Rattle.xs_chars.proofs.reserved.put_character.Goals as goal

pub put_bytes-requires : goal.put_bytes-requires
put_bytes-requires c =
    let long = ap length (two_bytes c.args.character c.args.character _ (omega arith) (omega arith) refl c.next_byte.ensures) in
    omega (arith, long)

pub put_bytes-requires-then-c-lt65536 : goal.put_bytes-requires-then-c-lt65536
put_bytes-requires-then-c-lt65536 c =
    let long = ap length (three_bytes c.args.character c.args.character _ _ (omega arith) (omega arith) refl c.next_byte-then-c-lt65536.ensures c.next_byte-then-c-lt65536-2.ensures) in
    omega (arith, long)

pub put_bytes-requires-else-c-lt65536 : goal.put_bytes-requires-else-c-lt65536
put_bytes-requires-else-c-lt65536 c =
    let long = ap length (four_bytes c.args.character c.args.character _ _ _ (omega arith) refl c.next_byte-else-c-lt65536.ensures c.next_byte-else-c-lt65536-2.ensures c.next_byte-else-c-lt65536-3.ensures) in
    omega (arith, long)

pub returns-then-c-lt2048-clause-put : goal.returns-then-c-lt2048-clause-put
returns-then-c-lt2048-clause-put c =
    c.put_bytes.ensures.put
    ∙ ap (λ (l : List ℕ). c.args.bytes.now.items ++ l) (two_bytes c.args.character c.args.character _ (omega arith) (omega arith) refl c.next_byte.ensures)

pub returns-then-c-lt2048-clause-len : goal.returns-then-c-lt2048-clause-len
returns-then-c-lt2048-clause-len c =
    let long = ap length (two_bytes c.args.character c.args.character _ (omega arith) (omega arith) refl c.next_byte.ensures) in
    omega (arith, long)

pub returns-then-c-lt65536-clause-put : goal.returns-then-c-lt65536-clause-put
returns-then-c-lt65536-clause-put c =
    c.put_bytes-then-c-lt65536.ensures.put
    ∙ ap (λ (l : List ℕ). c.args.bytes.now.items ++ l) (three_bytes c.args.character c.args.character _ _ (omega arith) (omega arith) refl c.next_byte-then-c-lt65536.ensures c.next_byte-then-c-lt65536-2.ensures)

pub returns-then-c-lt65536-clause-len : goal.returns-then-c-lt65536-clause-len
returns-then-c-lt65536-clause-len c =
    let long = ap length (three_bytes c.args.character c.args.character _ _ (omega arith) (omega arith) refl c.next_byte-then-c-lt65536.ensures c.next_byte-then-c-lt65536-2.ensures) in
    omega (arith, long)

pub returns-else-c-lt65536-clause-put : goal.returns-else-c-lt65536-clause-put
returns-else-c-lt65536-clause-put c =
    c.put_bytes-else-c-lt65536.ensures.put
    ∙ ap (λ (l : List ℕ). c.args.bytes.now.items ++ l) (four_bytes c.args.character c.args.character _ _ _ (omega arith) refl c.next_byte-else-c-lt65536.ensures c.next_byte-else-c-lt65536-2.ensures c.next_byte-else-c-lt65536-3.ensures)

pub returns-else-c-lt65536-clause-len : goal.returns-else-c-lt65536-clause-len
returns-else-c-lt65536-clause-len c =
    let long = ap length (four_bytes c.args.character c.args.character _ _ _ (omega arith) refl c.next_byte-else-c-lt65536.ensures c.next_byte-else-c-lt65536-2.ensures c.next_byte-else-c-lt65536-3.ensures) in
    omega (arith, long)
