-- Pieces that follow one another.
use Rattle.std.proofs.Common.{◌≡◌, ℕ, ◌+◌, ◌-◌, ◌<◌, ◌≤◌, List, [], ◌++◌, length, take, drop, sym, ◌∙◌, ap, Some, None, arith, append_assoc, length-append, length-drop}
use Rattle.std.specs.declared.option.Option.{Option}
use Rattle.std.specs.Io.KnownBytes.{Appends, Consumes, IsAtEnd, Keeps}
use Rattle.std.proofs.lemmas.List.{append-nil, take_all}
use Rattle.std.proofs.Math.Seq.{take-add}
use Rattle.xs_io.specs.Whole.{Drains, Exceeds, TakesAtMost}

-- what was written, and a front of the rest, is a longer front
pub appends_front : (old mid new : Option (List ℕ)) (xs : List ℕ) (i n : ℕ) → Appends old mid (take i xs) → Appends mid new (take n (take (length xs - i) (drop i xs))) → Appends old new (take (i + n) xs)
appends_front None mid new xs i n first next = tt
appends_front (Some a) None new xs i n first next = absurd first
appends_front (Some a) (Some b) None xs i n first next = absurd next
appends_front (Some a) (Some b) (Some c) xs i n first next =
    let whole : take (length xs - i) (drop i xs) ≡ drop i xs = take_all _ _ (omega (arith, length-drop i xs)) in
    next ∙ ap (λ l. l ++ take n (take (length xs - i) (drop i xs))) first ∙ append_assoc a (take i xs) _ ∙ ap (λ l. a ++ (take i xs ++ take n l)) whole ∙ ap (λ l. a ++ l) (sym (take-add i n xs))

-- one piece after another is both
pub consumes_both : (old mid new : Option (List ℕ)) (taken piece : List ℕ) → Consumes old mid taken → Consumes mid new piece → Consumes old new (taken ++ piece)
consumes_both None mid new taken piece first next = tt
consumes_both (Some a) None new taken piece first next = absurd first
consumes_both (Some a) (Some b) None taken piece first next = absurd next
consumes_both (Some a) (Some b) (Some c) taken piece first next =
    first ∙ ap (λ l. taken ++ l) next ∙ sym (append_assoc taken piece c)

-- after a piece nothing more was taken
pub consumes_kept : (old mid new : Option (List ℕ)) (taken : List ℕ) → Consumes old mid taken → Keeps mid new → Consumes old new taken
consumes_kept None mid new taken first next = tt
consumes_kept (Some a) None new taken first next = absurd first
consumes_kept (Some a) (Some b) None taken first next = absurd next
consumes_kept (Some a) (Some b) (Some c) taken first next = first ∙ ap (λ l. taken ++ l) (sym next)

pub takes_both : (old mid new : Option (List ℕ)) (taken piece : List ℕ) (most : ℕ) → Consumes old mid taken → Consumes mid new piece → length taken + length piece ≤ most → TakesAtMost old new most
takes_both old mid new taken piece most first next few = record {
  taken = taken ++ piece;
  front = consumes_both old mid new taken piece first next;
  few = omega (arith, length-append taken piece);
}

pub takes_kept : (old mid new : Option (List ℕ)) (taken : List ℕ) (most : ℕ) → Consumes old mid taken → Keeps mid new → length taken ≤ most → TakesAtMost old new most
takes_kept old mid new taken most first next few = record {
  taken = taken;
  front = consumes_kept old mid new taken first next;
  few = few;
}

pub exceeds : (old mid new : Option (List ℕ)) (taken piece : List ℕ) (limit : ℕ) → Consumes old mid taken → Consumes mid new piece → limit < length taken + length piece → length taken + length piece ≤ limit + 1 → Exceeds old new limit
exceeds None mid new taken piece limit first next more less = tt
exceeds (Some a) None new taken piece limit first next more less = absurd first
exceeds (Some a) (Some b) None taken piece limit first next more less = absurd next
exceeds (Some a) (Some b) (Some c) taken piece limit first next more less =
    let whole : a ≡ (taken ++ piece) ++ c = consumes_both (Some a) (Some b) (Some c) taken piece first next in
    (omega (arith, ap length whole, length-append (taken ++ piece) c, length-append taken piece), taken ++ piece, whole, omega (arith, length-append taken piece))

-- a read of nothing at the end
pub drains : (old mid new : Option (List ℕ)) (taken piece : List ℕ) (limit : ℕ) → Consumes old mid taken → Consumes mid new piece → piece ≡ [] → IsAtEnd new → length taken ≤ limit → Drains old new taken limit
drains None mid new taken piece limit first next none end few = few
drains (Some a) None new taken piece limit first next none end few = absurd first
drains (Some a) (Some b) None taken piece limit first next none end few = absurd next
drains (Some a) (Some b) (Some c) taken piece limit first next none end few =
    let nothing : b ≡ [] = next ∙ ap (λ (l : List ℕ). l ++ c) none ∙ end in
    (sym (first ∙ ap (λ (l : List ℕ). taken ++ l) nothing ∙ append-nil taken), end, few)
