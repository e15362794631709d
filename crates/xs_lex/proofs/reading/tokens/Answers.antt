use Rattle.std.proofs.Common.{◌≡◌, ◌∙◌, sym, ap, subst, map, ℕ, List, Ok}
use Rattle.std.specs.Str.{chars}
use Rattle.std.specs.List.{All}
use Rattle.std.proofs.lemmas.Iterator.{YieldsList-from_chars, items_from_collect}
use Rattle.xs_lex.specs.declared.token.Token.{Token}
use Rattle.xs_lex.specs.Reading.{Lexeme, AreTokens, IsSlice, extent_of, after_mark, valid, lexeme_of}
use Rattle.xs_lex.proofs.Uniqueness.{one_list}
use Rattle.xs_lex.proofs.Reached.{whole_test}
use Rattle.xs_lex.proofs.reading.tokens.Goals as goal

pub scanned-requires-clause-letters : goal.scanned-requires-clause-letters
scanned-requires-clause-letters c =
    let same : c.in_ok-letters.letters.items ≡ chars c.valid_text-text.result.now = items_from_collect {E = ℕ} (Ok c.in_ok-letters.letters) c.in_ok-letters.ensures.ran (YieldsList-from_chars c.valid_text-text.result.now c.valid_text-text.utf8 c.chars.ensures.rest) in
    c.deref.ensures.value ∙ same ∙ ap chars c.valid_text-text.ensures

pub scanned-requires-clause-whole : goal.scanned-requires-clause-whole
scanned-requires-clause-whole c = whole_test c.args.bytes.now c.valid_text-text.result.now c.valid_text-text.ensures

only_list : (bytes : List ℕ) (list ts : List Token) → ts ≡ list → AreTokens bytes (map (lexeme_of bytes) list) → (us : List Lexeme) → AreTokens bytes us → us ≡ map (lexeme_of bytes) ts
only_list bytes list ts is tokens us others = one_list (extent_of bytes) (after_mark (chars (valid bytes))) us (map (lexeme_of bytes) list) others tokens ∙ ap (λ (z : List Token). map (lexeme_of bytes) z) (sym is)

pub returns-clause-only : goal.returns-clause-only
returns-clause-only c = only_list c.args.bytes.now c.in_ok-list.list.items c.from_vec.result c.from_vec.ensures c.in_ok-list.ensures.tokens

pub returns-clause-slices : goal.returns-clause-slices
returns-clause-slices c = subst (λ (z : List Token). All (IsSlice c.args.bytes.now) z) (sym c.from_vec.ensures) c.in_ok-list.ensures.slices
