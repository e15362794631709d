-- The stack of labels that are still to be made, and why the loop over it ends: rows only become more, and
-- until a row is made the stack only grows, which no list does without end.
use Rattle.std.proofs.Common.{◌≡◌, ℕ, suc, ◌+◌, ◌-◌, ◌*◌, ◌<◌, Bool, true, false, not, cond, List, ◌++◌, length, take, slice_get, Option, None, Some, is_some, refl, sym, ap, ◌∙◌, subst, arith, inl, inr}
use Rattle.std.specs.Prelude.{slice_index_or}
use Rattle.std.proofs.lemmas.List.Elements.{All-append, All-take, All-contains}
use Rattle.std.proofs.lemmas.Option.{slice_get_read, slice_get_within}
use Rattle.xs_class.proofs.Lists.{contains_of, get_left, get_taken}
use Rattle.xs_gram.specs.Grammar.{Grammar}
use Rattle.xs_forest_laws.specs.declared.span.SpanKey.{SpanKey}
use Rattle.xs_forest_laws.specs.Forest.{Forest}
use Rattle.xs_grow.specs.Making.{IsLabel, HasNoRow, Misses, IsVisited, AreOwed}
use Rattle.xs_grow.proofs.ListLemmas.{get_append_cases}

-- how much is left by the number of rows, whether the last label is new, and how long the stack is
abbrev pub left_of : ℕ → ℕ → Bool → ℕ → ℕ
left_of limit rows is_new long = 2 * limit * (limit - rows) + cond is_new (limit - long) (limit + long)

module _ (g : Grammar) (w : List ℕ) (root : SpanKey) (f : Forest) (is_new : Bool) (stack : List SpanKey) (owed : AreOwed g w f root is_new stack) where
  pub some : 0 < length stack
  some = slice_get_within stack 0 root owed.root_first

  -- the last label, where it is new, has no row
  pub new_rowless : (at : ℕ) (key : SpanKey) → suc at ≡ length stack → key ≡ slice_index_or stack at key → is_new ≡ true → HasNoRow f key
  new_rowless at key last read new = owed.rowless at key new last (slice_get_read stack (length stack) at key refl (omega arith) read)

  -- with labels that have no row
  pub owed_more : (stack' : List SpanKey) (f' : Forest) (P : Type 0) → f' ≡ f → length stack < length stack' → Misses g w f P stack stack' → AreOwed g w f' root true stack'
  owed_more stack' f' P same longer h = subst (λ (z : Forest). AreOwed g w z root true stack') (sym same) (subst (λ (z : List SpanKey). AreOwed g w f root true z) (sym h.is) (record {
    labels = All-append (IsLabel g w) stack h.more owed.labels h.labels;
    root_first = get_left stack h.more 0 root owed.root_first;
    rowless = rowless;
  }))
    where
      rowless : (k : ℕ) (key : SpanKey) → true ≡ true → suc k ≡ length (stack ++ h.more) → slice_get (stack ++ h.more) k ≡ Some key → HasNoRow f key
      rowless k key new last at = elim (get_append_cases stack h.more k key at) [
        | inl old ↦
            let lt = slice_get_within stack k key old in
            let lt' : length stack < length (stack ++ h.more) = subst (λ (z : List SpanKey). length stack < length z) h.is longer in
            absurd (omega arith)
        | inr (n, is, there) ↦ All-contains (HasNoRow f) h.more key h.rowless (contains_of h.more n key there)
      ]

  -- without the last one
  pub owed_less : (stack' : List SpanKey) (f' : Forest) (n : ℕ) → stack' ≡ take n stack → 0 < n → AreOwed g w f' root false stack'
  owed_less stack' f' n is more = subst (λ (z : List SpanKey). AreOwed g w f' root false z) (sym is) (record {
    labels = All-take (IsLabel g w) n stack owed.labels;
    root_first = get_taken stack n 0 root more owed.root_first;
    rowless = λ k key new last at. cc;
  })

  -- after a visit that answered no row
  pub owed_none : (key : SpanKey) (f' : Forest) (stack' : List SpanKey) (row : Option ℕ) (new : Bool) → row ≡ None → is_some row ≡ not new → IsVisited g w key is_new f f' stack stack' row → AreOwed g w f' root new stack'
  owed_none key f' stack' None true e b v = owed_more stack' f' (Unit {0}) v.0 v.1 v.2
  owed_none key f' stack' None false e b v = cc
  owed_none key f' stack' (Some q) new e b v = cc

  -- and after one that answered a row, without the label
  pub owed_row : (key : SpanKey) (f' : Forest) (stack' rest : List SpanKey) (row : Option ℕ) (r n : ℕ) (new : Bool) → row ≡ Some r → is_some row ≡ not new → IsVisited g w key is_new f f' stack stack' row → rest ≡ take n stack' → 0 < n → AreOwed g w f' root new rest
  owed_row key f' stack' rest (Some q) r n false e b v is more = owed_less rest f' n (is ∙ ap (λ (z : List SpanKey). take n z) v.1) more
  owed_row key f' stack' rest (Some q) r n true e b v is more = cc
  owed_row key f' stack' rest None r n new e b v is more = cc

  -- there a label is left
  pub still_some : (key : SpanKey) (f' : Forest) (stack' : List SpanKey) (row : Option ℕ) (r : ℕ) → row ≡ Some r → IsVisited g w key is_new f f' stack stack' row → 0 < length stack'
  still_some key f' stack' (Some q) r e v = let same = ap length v.1 in let more = some in omega arith
  still_some key f' stack' None r e v = cc
