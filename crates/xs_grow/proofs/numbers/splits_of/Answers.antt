use Rattle.std.proofs.Common.{◌≡◌, ◌-◌, ◌<◌, ◌≤◌, suc, List, ℕ, [], ◌∷◌, ◌++◌, length, Option, None, Some, refl, sym, ap, ◌∙◌, subst, arith}
use Rattle.std.specs.Prelude.{Contains, MatchOption, slice_get, slice_index_or}
use Rattle.std.proofs.lemmas.Option.{none-some, same_Some, slice_get_read}
use Rattle.xs_gram.specs.declared.parts.GItem.{GItem}
use Rattle.xs_gram.specs.declared.parts.GItem.TheVariants.{Fixed}
use Rattle.xs_gram.specs.Grammar.{Grammar, items, ItemAt}
use Rattle.xs_forest_laws.specs.declared.span.SpanKey.{SpanKey}
use Rattle.xs_forest_laws.specs.declared.span.What.{What}
use Rattle.xs_forest_laws.specs.declared.span.What.TheVariants.{Front}
use Rattle.xs_forest_laws.specs.Forest.{key_at}
use Rattle.xs_grow.specs.Lists.{Appends}
use Rattle.xs_grow.specs.Making.{IsLabel}
use Rattle.xs_grow.specs.Candidates.{IsSearched}
use Rattle.xs_grow.proofs.Numbering.{first_of, fixed_before, fixed_of, split_of}
use Rattle.xs_grow.proofs.numbers.splits_of.Goals as goal

-- the label has items
dotted : (g : Grammar) (w : List ℕ) (key : SpanKey) (p dot : ℕ) → key.what ≡ Front p dot → IsLabel g w key → (0 < dot) × (dot ≤ length (items g p))
dotted g w key p dot e label = let h : IsLabel g w (key_at (Front p dot) key.start key.end) = subst (λ (z : What). IsLabel g w (key_at z key.start key.end)) e label in (h.0, h.1.5.0)

item_read : (g : Grammar) (p dot : ℕ) (xs : List GItem) (item : GItem) → xs ≡ items g p → 0 < dot → dot ≤ length (items g p) → item ≡ slice_index_or xs (dot - 1) item → ItemAt g p (dot - 1) item
item_read g p dot xs item e lt le is = subst (λ (z : List GItem). slice_get z (dot - 1) ≡ Some item) e (slice_get_read xs (length xs) (dot - 1) item refl (let l = ap length e in omega arith) is)

one_less : (dot : ℕ) → 0 < dot → suc (dot - 1) ≡ dot
one_less dot lt = omega arith

fixed_item : (item : GItem) (o : Option ℕ) (n : ℕ) → o ≡ Some n → MatchOption o (IsSearched item) (λ m. (v : List ℕ) × (item ≡ Fixed v) × (m ≡ length v)) → (v : List ℕ) × (item ≡ Fixed v) × (n ≡ length v)
fixed_item item None n e h = absurd (none-some n e)
fixed_item item (Some m) n e h = let same : m ≡ n = same_Some m n e in (h.0, h.1, sym same ∙ h.2)

searched_item : (item : GItem) (o : Option ℕ) → o ≡ None → MatchOption o (IsSearched item) (λ m. (v : List ℕ) × (item ≡ Fixed v) × (m ≡ length v)) → IsSearched item
searched_item item None e h = h
searched_item item (Some m) e h = absurd (none-some m (sym e))

pub returns-then-dot-eq1 : goal.returns-then-dot-eq1
returns-then-dot-eq1 c =
    let s = c.args.source.now in
    first_of s.g.now s.doc.now c.args.key c.push.new.self.items c.args.rule c.args.dot c.requires.front c.requires.label c.if-dot-eq1.true (c.in_ok-push.ensures.items ∙ ap (λ (z : List ℕ). z ++ c.args.key.start ∷ []) c.clear.ensures.items)

pub overflow_sub-key : goal.overflow_sub-key
overflow_sub-key c =
    let s = c.args.source.now in
    let d = dotted s.g.now s.doc.now c.args.key c.args.rule c.args.dot c.requires.front c.requires.label in
    let f = fixed_item c.index-items-dot.result c.fixed_length.result c.in-Some.length c.in-Some.is c.fixed_length.ensures in
    let at = item_read s.g.now c.args.rule c.args.dot c.items.result.now c.index-items-dot.result c.items.ensures.items d.0 d.1 c.index-items-dot.is in
    let le = fixed_before s.g.now s.doc.now c.args.key [] c.args.rule c.args.dot c.requires.front c.requires.label (c.args.dot - 1) f.0 (one_less c.args.dot d.0) (subst (λ z. ItemAt s.g.now c.args.rule (c.args.dot - 1) z) f.1 at) in
    let n = f.2 in
    omega arith

pub returns-in_ok-push-in-Some : goal.returns-in_ok-push-in-Some
returns-in_ok-push-in-Some c =
    let s = c.args.source.now in
    let d = dotted s.g.now s.doc.now c.args.key c.args.rule c.args.dot c.requires.front c.requires.label in
    let f = fixed_item c.index-items-dot.result c.fixed_length.result c.in-Some.length c.in-Some.is c.fixed_length.ensures in
    let at = item_read s.g.now c.args.rule c.args.dot c.items.result.now c.index-items-dot.result c.items.ensures.items d.0 d.1 c.index-items-dot.is in
    let at' = subst (λ z. ItemAt s.g.now c.args.rule (c.args.dot - 1) z) f.1 at in
    let le = fixed_before s.g.now s.doc.now c.args.key [] c.args.rule c.args.dot c.requires.front c.requires.label (c.args.dot - 1) f.0 (one_less c.args.dot d.0) at' in
    let n = f.2 in
    let number : ℕ = c.args.key.end - c.in-Some.length in
    fixed_of s.g.now s.doc.now c.args.key c.push-in-Some.new.self.items c.args.rule c.args.dot c.requires.front c.requires.label (c.args.dot - 1) number f.0 (one_less c.args.dot d.0) at' (omega arith) (c.in_ok-push-in-Some.ensures.items ∙ ap (λ (z : List ℕ). z ++ number ∷ []) c.clear.ensures.items)

pub returns-in_ok-numbers-in-None : goal.returns-in_ok-numbers-in-None
returns-in_ok-numbers-in-None c =
    let s = c.args.source.now in
    let d = dotted s.g.now s.doc.now c.args.key c.args.rule c.args.dot c.requires.front c.requires.label in
    let at = item_read s.g.now c.args.rule c.args.dot c.items.result.now c.index-items-dot.result c.items.ensures.items d.0 d.1 c.index-items-dot.is in
    let ne = c.if-dot-eq1.false in
    let more = d.0 in
    let searched = searched_item c.index-items-dot.result c.fixed_length.result c.in-None.is c.fixed_length.ensures in
    let appended = subst (λ (z : List ℕ). Appends (λ m. Contains s.splits.now (c.args.key, m)) z c.numbers.new.out.items) c.clear.ensures.items c.in_ok-numbers-in-None.ensures in
    split_of s.g.now s.doc.now c.args.key c.numbers.new.out.items c.args.rule c.args.dot c.requires.front c.requires.label (c.args.dot - 1) c.index-items-dot.result s.splits.now (one_less c.args.dot d.0) (omega arith) at searched c.requires.source.splits appended
