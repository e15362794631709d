-- A document and what is kept of it, after an edit.
use Rattle.std.proofs.Common.{◌≡◌, ℕ, ◌+◌, ◌-◌, ◌≤◌, List, ◌++◌, length, length-append, take, drop, Some, None, sym, ap, ◌∙◌, arith, append_assoc}
use Rattle.std.specs.declared.option.Option.{Option}
use Rattle.std.proofs.lemmas.List.{length-drop, length-take-le, take-take, take-append-le}
use Rattle.xs_pair.specs.Grammars.{Pair}
use Rattle.xs_edit.specs.Edits.{edited, document_limit, CanEdit}
use Rattle.xs_edit.specs.Sessions.{Editing}
use Rattle.xs_script.specs.Drafts.{IsDraft}
use Rattle.xs_script.specs.Playing.{IsTreeAnswer}

-- what stands in place of the symbols that were cut
pub edit_is : (doc put found new : List ℕ) (at cut : ℕ) → new ≡ take at doc ++ (found ++ drop (at + cut) doc) → found ≡ put → new ≡ edited doc at cut put
edit_is doc put found new at cut is same = is ∙ ap (λ (l : List ℕ). take at doc ++ (l ++ drop (at + cut) doc)) same ∙ sym (append_assoc (take at doc) put (drop (at + cut) doc))

before_edit : (doc put : List ℕ) (at cut n : ℕ) → n ≤ at → at ≤ length doc → take n (edited doc at cut put) ≡ take n doc
before_edit doc put at cut n le inside =
    let long = length-take-le at doc inside in
    ap (λ (l : List ℕ). take n l) (append_assoc (take at doc) put (drop (at + cut) doc)) ∙ take-append-le n (take at doc) (put ++ drop (at + cut) doc) (omega (arith, long, le)) ∙ take-take n at doc le

-- an edit leaves the symbols before its place
pub draft_edit : (p : Pair) (session : Editing) (doc put new : List ℕ) (at cut same m : ℕ) (line : Option (List ℕ)) → IsDraft p session doc same line → CanEdit doc at cut put → new ≡ edited doc at cut put → m ≤ same → m ≤ at → IsDraft p session new m None
draft_edit p session doc put new at cut same m line kept can is le before = record {
  of = kept.of;
  front = sym (take-take m same session.document le) ∙ ap (λ (l : List ℕ). take m l) kept.front ∙ take-take m same doc le ∙ sym (ap (λ (l : List ℕ). take m l) is ∙ before_edit doc put at cut m before inside);
  within = omega (arith, before, long, whole, length-append (take at doc ++ put) (drop (at + cut) doc), length-append (take at doc) put);
  there = (let old = kept.there in omega (arith, le, old));
  short = (let most = can.short in omega (arith, most, whole));
  old = kept.old;
  told = tt;
}
  where
    inside : at ≤ length doc
    inside = let all = can.inside in omega (arith, all)

    long : length (take at doc) ≡ at
    long = length-take-le at doc inside

    whole : length new ≡ length (edited doc at cut put)
    whole = ap (λ (l : List ℕ). length l) is

-- a document that is not too long after an edit can be edited so
pub can_edit : (doc put : List ℕ) (at cut : ℕ) → at + cut ≤ length doc → length doc - cut + length put ≤ document_limit → CanEdit doc at cut put
can_edit doc put at cut inside short = record {
  inside = inside;
  short = omega (arith, inside, short, length-append (take at doc ++ put) (drop (at + cut) doc), length-append (take at doc) put, length-take-le at doc (omega (arith, inside)), length-drop (at + cut) doc);
}

-- the line of the derivation is kept
pub draft_told : (p : Pair) (session : Editing) (doc line : List ℕ) (same : ℕ) (old : Option (List ℕ)) → IsDraft p session doc same old → IsTreeAnswer p doc line → IsDraft p session doc same (Some line)
draft_told p session doc line same old kept told = record { of = kept.of; front = kept.front; within = kept.within; there = kept.there; short = kept.short; old = kept.old; told = told }
