use Rattle.std.proofs.Common.{◌≡◌, ◌∙◌, ◌+◌, ◌∷◌, ◌++◌, ◌==◌, ◌&&◌, if◌then◌else◌, sym, ap, refl, add-zero, [], ℕ, List, Bool, length, map, subst}
use Rattle.std.specs.List.{All}
use Rattle.std.specs.Str.Lossy.{utf8_valid_len}
use Rattle.xs_lex.specs.declared.kind.Kind.{Kind}
use Rattle.xs_lex.specs.declared.kind.Kind.TheVariants.{End, Bad}
use Rattle.xs_lex.specs.declared.token.Token.{Token}
use Rattle.xs_lex.specs.Between.{IsApart}
use Rattle.xs_lex.specs.Reading.{NoToken, AreTokens, IsSlice, size_of, line_ends, lexeme_of}
use Rattle.xs_lex.proofs.Reached.{Reached, IsToken, reached_at, reached_same, reached_token, reached_last, small_gap, small_word}
use Rattle.xs_lex.proofs.reading.scanned.Goals as goal
use Rattle.xs_class.specs.Words.{is_empty}

pub tokens-init : goal.tokens-init
tokens-init c = reached_at c.args.bytes.now c.args.letters.now c.front.result.1.now c.new-list.result.items c.front.result.0.at c.front.result.0.line c.requires.text c.requires.letters c.new-list.ensures.items c.front.ensures.rest c.front.ensures.line

pub past-start-requires-clause-size : goal.past-start-requires-clause-size
past-start-requires-clause-size c = (small_gap _ _ _ _ _ c.split_blanks.result.0.now c.split_blanks.result.1.now c.requires.few c.requires.text c.tokens.invariant c.split_blanks.ensures.parts).bytes

pub past-start-requires-clause-lines : goal.past-start-requires-clause-lines
past-start-requires-clause-lines c = (small_gap _ _ _ _ _ c.split_blanks.result.0.now c.split_blanks.result.1.now c.requires.few c.requires.text c.tokens.invariant c.split_blanks.ensures.parts).lines

pub past-end-requires-clause-size : goal.past-end-requires-clause-size
past-end-requires-clause-size c = rw c.past-start.ensures.at (small_word _ _ _ _ _ c.split_blanks.result.0.now c.split_blanks.result.1.now c.in-Some.next.word.now c.in-Some.next.rest.now c.requires.few c.requires.text c.tokens.invariant c.split_blanks.ensures.parts c.in-Some.ensures.found.begins.is).bytes

pub past-end-requires-clause-lines : goal.past-end-requires-clause-lines
past-end-requires-clause-lines c = rw c.past-start.ensures.line (small_word _ _ _ _ _ c.split_blanks.result.0.now c.split_blanks.result.1.now c.in-Some.next.word.now c.in-Some.next.rest.now c.requires.few c.requires.text c.tokens.invariant c.split_blanks.ensures.parts c.in-Some.ensures.found.begins.is).lines

-- the last token, pushed
last_pushed : (bytes : List ℕ) (list more : List Token) (at line : ℕ) (rest gap text : List ℕ) (whole : Bool) (kind : Kind) (a l : ℕ) → Reached bytes list at line rest → rest ≡ gap ++ text → IsApart rest text → NoToken text → whole ≡ (utf8_valid_len bytes == length bytes) → kind ≡ (if whole && is_empty text then End else Bad) → a ≡ at + size_of gap → l ≡ line + line_ends gap → more ≡ list ++ (let t : Token = record { kind = kind; start = a; end = a; line = l } in t) ∷ [] → AreTokens bytes (map (lexeme_of bytes) more) × All (IsSlice bytes) more
last_pushed bytes list more at line rest gap text whole kind a l r split apart none is kind_is a_is l_is pushed =
    let t : Token = record { kind = kind; start = a; end = a; line = l } in
    let last : IsToken bytes at line gap (if (utf8_valid_len bytes == length bytes) && is_empty text then End else Bad) [] t = record { kind_is = kind_is ∙ ap (λ (b : Bool). if b && is_empty text then End else Bad) is; start_is = a_is; end_is = a_is ∙ sym (add-zero (at + size_of gap)); line_is = l_is } in
    let both = reached_last bytes list at line rest gap text t r split apart none last in
    (subst (λ (z : List Token). AreTokens bytes (map (lexeme_of bytes) z)) (sym pushed) both.0, subst (λ (z : List Token). All (IsSlice bytes) z) (sym pushed) both.1)

pub returns-in_default-clause-tokens : goal.returns-in_default-clause-tokens
returns-in_default-clause-tokens c = (last_pushed c.args.bytes.now c.tokens.list.items c.push.new.self.items c.tokens.location.at c.tokens.location.line c.tokens.rest.now c.split_blanks.result.0.now c.split_blanks.result.1.now c.args.whole c.last_kind-kind.result c.past-start.result.at c.past-start.result.line c.tokens.invariant c.split_blanks.ensures.parts c.split_blanks.ensures.apart c.in_default.ensures.none c.requires.whole c.last_kind-kind.ensures c.past-start.ensures.at c.past-start.ensures.line c.in_ok-push.ensures.items).0

pub returns-in_default-clause-slices : goal.returns-in_default-clause-slices
returns-in_default-clause-slices c = (last_pushed c.args.bytes.now c.tokens.list.items c.push.new.self.items c.tokens.location.at c.tokens.location.line c.tokens.rest.now c.split_blanks.result.0.now c.split_blanks.result.1.now c.args.whole c.last_kind-kind.result c.past-start.result.at c.past-start.result.line c.tokens.invariant c.split_blanks.ensures.parts c.split_blanks.ensures.apart c.in_default.ensures.none c.requires.whole c.last_kind-kind.ensures c.past-start.ensures.at c.past-start.ensures.line c.in_ok-push.ensures.items).1

pub tokens-preserved : goal.tokens-preserved
tokens-preserved c =
    let t : Token = record { kind = c.in-Some.next.kind; start = c.past-start.result.at; end = c.past-end.result.at; line = c.past-start.result.line } in
    let word : List ℕ = c.in-Some.next.word.now in
    let gap : List ℕ = c.split_blanks.result.0.now in
    let at_end : c.past-end.result.at ≡ c.tokens.location.at + size_of gap + size_of word = c.past-end.ensures.at ∙ ap (λ (n : ℕ). n + size_of word) c.past-start.ensures.at in
    let line_end : c.past-end.result.line ≡ c.tokens.location.line + line_ends gap + line_ends word = c.past-end.ensures.line ∙ ap (λ (n : ℕ). n + line_ends word) c.past-start.ensures.line in
    let is : IsToken c.args.bytes.now c.tokens.location.at c.tokens.location.line gap c.in-Some.next.kind word t = record { kind_is = refl; start_is = c.past-start.ensures.at; end_is = at_end; line_is = c.past-start.ensures.line } in
    let next_ = reached_token c.args.bytes.now c.tokens.list.items c.tokens.location.at c.tokens.location.line c.tokens.rest.now gap c.split_blanks.result.1.now word c.in-Some.next.rest.now c.in-Some.next.kind t c.tokens.invariant c.split_blanks.ensures.parts c.split_blanks.ensures.apart c.in-Some.ensures.found.begins.is c.in-Some.ensures.found is in
    reached_same c.args.bytes.now (c.tokens.list.items ++ t ∷ []) c.push-in-tokens.new.self.items (c.tokens.location.at + size_of gap + size_of word) c.past-end.result.at (c.tokens.location.line + line_ends gap + line_ends word) c.past-end.result.line c.in-Some.next.rest.now c.in-Some.next.rest.now next_ c.in_ok-push-2.ensures.items at_end line_end refl
