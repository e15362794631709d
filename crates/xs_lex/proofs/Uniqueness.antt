-- A file has one list of tokens.
use Rattle.std.proofs.Common.{◌≡◌, ◌⊎◌, inl, inr, ℕ, List, [], ◌∷◌, ◌++◌, length, take, drop, length-append, false, refl, sym, ap, ◌∙◌, subst, arith}
use Rattle.std.proofs.lemmas.List.{drop_at, take_at}
use Rattle.xs_lex.specs.declared.kind.Kind.{Kind}
use Rattle.xs_lex.specs.Between.{IsApart}
use Rattle.xs_lex.specs.Scan.{blank_end}
use Rattle.xs_lex.specs.Reading.{IsTokenAt, Lexeme, Extent, StandsAt, IsLast, AreTokensFrom}
use Rattle.xs_lex.proofs.BlankLaws.{apart_count, blanks_front}
use Rattle.xs_lex.proofs.TokenLaws.{longest_found}
use Rattle.xs_class.proofs.Lists.{some_inj}

apart_rest : (text rest : List ℕ) → IsApart text rest → rest ≡ drop (blank_end false 0 text) text
apart_rest text rest a =
    let f = blanks_front a.blanks rest in
    let split : text ≡ f.0 ++ rest = a.is ∙ f.1 in
    let count = apart_count text rest a in
    let sizes : length text ≡ length (f.0 ++ rest) = ap length split in
    let same : length f.0 ≡ blank_end false 0 text = omega (arith, length-append f.0 rest) in
    sym (ap (λ (z : List ℕ). drop (blank_end false 0 text) z) split ∙ drop_at f.0 rest (blank_end false 0 text) same)

pub same_rest : (text r s : List ℕ) → IsApart text r → IsApart text s → r ≡ s
same_rest text r s a b = apart_rest text r a ∙ sym (apart_rest text s b)

same_fields : (j k : Kind) (v w : List ℕ) (a b m n : ℕ) → j ≡ k → v ≡ w → a ≡ b → m ≡ n → (let x : Lexeme = record { kind = j; word = v; start = a; line = m } in x) ≡ record { kind = k; word = w; start = b; line = n }
same_fields j k v w a b m n e f g h = rw (e, f, g, h) refl

same_lexeme : (x : Extent) (rest : List ℕ) (t u : Lexeme) → t.kind ≡ u.kind → t.word ≡ u.word → StandsAt x t rest → StandsAt x u rest → t ≡ u
same_lexeme x rest t u kind word a b =
    let p = a.start in let q = b.start in let r = a.line in let s = b.line in
    same_fields t.kind u.kind t.word u.word t.start u.start t.line u.line kind word (omega arith) (omega arith)

pair_parts : (p q : Kind × ℕ) → p ≡ q → (p.0 ≡ q.0) × (p.1 ≡ q.1)
pair_parts p q e = (ap (λ (z : Kind × ℕ). z.0) e, ap (λ (z : Kind × ℕ). z.1) e)

pub record IsSameToken (k j : Kind) (v w r s : List ℕ) : Type 0 where
  pub kind : k ≡ j
  pub word : v ≡ w
  pub rest : r ≡ s

pub one_token : (text : List ℕ) (k j : Kind) (v w r s : List ℕ) → IsTokenAt text k v r → IsTokenAt text j w s → IsSameToken k j v w r s
one_token text k j v w r s a b =
    let e = some_inj (k, length v) (j, length w) (sym (longest_found text k v r a) ∙ longest_found text j w s b) in
    let p = pair_parts (k, length v) (j, length w) e in
    let whole_a = a.begins.is in
    let whole_b = b.begins.is in
    record {
      kind = p.0;
      word = sym (ap (λ (z : List ℕ). take (length v) z) whole_a ∙ take_at v r (length v) refl) ∙ ap (λ (z : List ℕ). take (length v) z) whole_b ∙ take_at w s (length v) (sym p.1);
      rest = sym (ap (λ (z : List ℕ). drop (length v) z) whole_a ∙ drop_at v r (length v) refl) ∙ ap (λ (z : List ℕ). drop (length v) z) whole_b ∙ drop_at w s (length v) (sym p.1);
    }

abbrev pub After : Extent → List ℕ → Lexeme → List Lexeme → Type 0
After x rest t ts = ((ts ≡ []) × IsLast x t rest) ⊎ ((after : List ℕ) × IsTokenAt rest t.kind t.word after × AreTokensFrom x after ts)

cons_same : (t u : Lexeme) (ts us : List Lexeme) → t ≡ u → ts ≡ us → (t ∷ ts) ≡ u ∷ us
cons_same t u ts us e f = cc

one_step : (x : Extent) (rest : List ℕ) (t u : Lexeme) (ts us : List Lexeme) → StandsAt x t rest → StandsAt x u rest → After x rest t ts → After x rest u us → ((text : List ℕ) → AreTokensFrom x text ts → AreTokensFrom x text us → ts ≡ us) → (t ∷ ts) ≡ u ∷ us
one_step x rest t u ts us sa sb (inl a) (inl b) again =
    cons_same t u ts us (same_lexeme x rest t u (a.1.kind ∙ sym b.1.kind) (a.1.word ∙ sym b.1.word) sa sb) (a.0 ∙ sym b.0)
one_step x rest t u ts us sa sb (inl a) (inr b) again = absurd (a.1.none u.kind u.word b.0 b.1.begins)
one_step x rest t u ts us sa sb (inr a) (inl b) again = absurd (b.1.none t.kind t.word a.0 a.1.begins)
one_step x rest t u ts us sa sb (inr a) (inr b) again =
    let s = one_token rest t.kind u.kind t.word u.word a.0 b.0 a.1 b.1 in
    cons_same t u ts us (same_lexeme x rest t u s.kind s.word sa sb) (again a.0 a.2 (subst (λ (z : List ℕ). AreTokensFrom x z us) (sym s.rest) b.2))

pub one_list : (x : Extent) (text : List ℕ) (ts us : List Lexeme) → AreTokensFrom x text ts → AreTokensFrom x text us → ts ≡ us
one_list x text [] us a b = absurd a
one_list x text (t ∷ ts) [] a b = absurd b
one_list x text (t ∷ ts) (u ∷ us) a b =
    let same : a.0 ≡ b.0 = same_rest text a.0 b.0 a.1 b.1 in
    let stands : StandsAt x u a.0 = subst (λ (z : List ℕ). StandsAt x u z) (sym same) b.2 in
    let after : After x a.0 u us = subst (λ (z : List ℕ). After x z u us) (sym same) b.3 in
    one_step x a.0 t u ts us a.2 stands a.3 after (λ z p q. one_list x z ts us p q)
