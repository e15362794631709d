use Rattle.std.proofs.Common.{◌≡◌, ◌∙◌, ◌++◌, ℕ, List, sym, subst, ap, rules, map, Ok}
use Rattle.std.specs.Str.{chars}
use Rattle.std.proofs.lemmas.List.{map-id}
use Rattle.std.proofs.lemmas.Iterator.{YieldsList-from_chars, YieldsList-from_map}
use Rattle.std.proofs.lemmas.Iterator.Adapters.{items_from_extend}
use Rattle.std.proofs.lemmas.Iterator.Consumers.{YieldsList-at}
use Rattle.xs_chars.specs.Text.{AreCharacters}
use Rattle.xs_chars.proofs.Characters.{utf8_characters}
use Rattle.xs_chars.proofs.strings.word_of.Goals as goal

is_word : (c : goal.After-from_vec) → c.from_vec.result ≡ chars c.args.text.now
is_word c =
    let symbols : List ℕ = map (λ n. n) (chars c.args.text.now) in
    let h = items_from_extend {E = ℕ} (Ok tt) c.in_ok-extend.ensures.ran (YieldsList-from_map _ (λ n. n) (YieldsList-at c.map.ensures.source (YieldsList-from_chars c.args.text.now c.utf8.text c.chars.ensures.rest)) c.map.ensures.closure (λ x r q k. search rules)) in
    let grown : c.extend.new.self.items ≡ c.in_ok-symbols.symbols.items ++ symbols = h.0 in
    c.from_vec.ensures ∙ grown ∙ ap (λ (l : List ℕ). l ++ symbols) c.in_ok-symbols.ensures.items ∙ map-id _

pub returns-clause-word : goal.returns-clause-word
returns-clause-word c = is_word c

pub returns-clause-characters : goal.returns-clause-characters
returns-clause-characters c = subst AreCharacters (sym (is_word c)) (utf8_characters c.args.text.now c.utf8.text)
