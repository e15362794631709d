use Rattle.std.proofs.Common.{◌≡◌, ◌≤◌, ℕ, ◌-◌, List, [], length, take, drop, Ok, Err, Some, arith, ap, ◌∙◌}
use Rattle.std.specs.declared.result.Result.{Result}
use Rattle.std.specs.Result.{IfOk}
use Rattle.std.specs.Str.{chars}
use Rattle.std.proofs.lemmas.List.{take_rest}
use Rattle.xs_lex.specs.declared.kind.Kind.TheVariants.{Quoted}
use Rattle.xs_lex.specs.declared.quoted.Spot.TheVariants.{Between}
use Rattle.xs_lex.specs.Spelling.{IsQuoted, Spells}
use Rattle.xs_lex.specs.Scan.{value_at}
use Rattle.xs_lex.proofs.QuotedLaws.{value_read}
use Rattle.xs_lex.proofs.quoted.quoted_value.Goals as goal

tail_value : (letters word value : List ℕ) → letters ≡ word → Spells Quoted word → value ≡ value_at (Some Between) (take (length letters - 1) (drop 1 letters)) → IsQuoted word value
tail_value letters word value same spells is =
    let q = spells.1 in
    let whole = same ∙ q.is in
    record { units = q.units; is = q.is; each = q.each; means = is ∙ ap (λ (z : List ℕ). value_at (Some Between) z) (take_rest letters 1) ∙ ap (λ (z : List ℕ). value_at (Some Between) (drop 1 z)) whole ∙ value_read q.units [] q.each }

some_letter : (letters word : List ℕ) → letters ≡ word → Spells Quoted word → 1 ≤ length letters
some_letter letters word same spells = rw (same ∙ spells.1.is) (omega arith)

if_ok : {T E : Type 0} (r : Result T E) (P Q : T → Type 0) → ((x : T) → P x → Q x) → IfOk r P → IfOk r Q
if_ok (Ok x) P Q f h = f x h
if_ok (Err e) P Q f h = h

pub slice_bounds-value-count : goal.slice_bounds-value-count
slice_bounds-value-count c = some_letter c.deref.result.now (chars c.args.token_text.now) (c.deref.ensures.value ∙ c.in_ok-letters.ensures) c.requires

pub returns : goal.returns
returns c =
    if_ok c.value.result _ _ (λ t h. tail_value c.deref.result.now (chars c.args.token_text.now) t (c.deref.ensures.value ∙ c.in_ok-letters.ensures) c.requires h) c.value.ensures
