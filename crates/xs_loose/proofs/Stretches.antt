-- Stretches of a rule's spread items, and how far they were gone through.
use Rattle.std.proofs.Common.{◌≡◌, ℕ, ◌+◌, ◌<◌, ◌≤◌, List, [], ◌∷◌, ◌++◌, length, take, drop, sym, ap, ◌∙◌, arith, append_assoc, append-nil, length-append, drop_at}
use Rattle.std.specs.Prelude.{slice_range}
use Rattle.std.proofs.lemmas.List.{length-take-le, take-append-drop}
use Rattle.std.proofs.lemmas.List.Folds.{drop_split}
use Rattle.xs_gram.specs.declared.parts.GItem.{GItem}
use Rattle.xs_gram.specs.Grammar.{Grammar}
use Rattle.xs_gram.specs.Fences.{spread, IsLevel}
use Rattle.xs_loose.specs.declared.part.Part.{Part}
use Rattle.xs_loose.specs.Parts.{part_items, IsPart, IsStretch}
use Rattle.xs_loose.specs.Steps.{StandsAt}

-- a part is a stretch
pub part_stretch : (g : Grammar) (part : Part) → IsPart g part → IsStretch g part.rule part.start (part_items g part)
part_stretch g part is =
    let xs = spread g part.rule in record {
      rule = is.rule;
      before = take part.start xs;
      after = drop part.end xs;
      split = sym (take-append-drop part.start xs) ∙ ap (λ (ys : List GItem). take part.start xs ++ ys) (drop_split xs part.start part.end is.order);
      place = sym (length-take-le part.start xs (omega (arith, is.order, is.within)));
      level = is.level;
    }

pub part_long : (g : Grammar) (part : Part) → IsPart g part → part.start + length (part_items g part) ≡ part.end
unfolding part_stretch
part_long g part is =
    let xs = spread g part.rule in
    let front = length-take-le part.end xs is.within in
    let halves : length (take part.end xs) + length (drop part.end xs) ≡ length xs = sym (length-append (take part.end xs) (drop part.end xs)) ∙ ap length (take-append-drop part.end xs) in
    let first : length xs ≡ length (take part.start xs) + length (part_items g part ++ drop part.end xs) = ap length (part_stretch g part is).split ∙ length-append (take part.start xs) (part_items g part ++ drop part.end xs) in
    omega (arith, first, length-append (part_items g part) (drop part.end xs), halves, front, length-take-le part.start xs (omega (arith, is.order, is.within)))

-- the items from one place of a rule to another, also where the second one is past the rule's end
pub slice_stretch : {g : Grammar} {p start end : ℕ} → p < length g.rules → start ≤ length (spread g p) → start ≤ end → IsLevel g.fences (slice_range (spread g p) start end) → IsStretch g p start (slice_range (spread g p) start end)
slice_stretch {g} {p} {start} {end} rule low order level = record {
  rule = rule;
  before = take start (spread g p);
  after = drop end (spread g p);
  split = sym (take-append-drop start (spread g p)) ∙ ap (λ (x : List GItem). take start (spread g p) ++ x) (drop_split (spread g p) start end order);
  place = sym (length-take-le start (spread g p) low);
  level = level;
}

-- what is left of a stretch stands in its rule
pub stretch_rest : (g : Grammar) (p start k : ℕ) (is front rest : List GItem) → IsStretch g p start is → is ≡ front ++ rest → k ≡ start + length front → IsLevel g.fences rest → 0 < length rest → StandsAt g p k rest
stretch_rest g p start k is front rest s e at level some = record {
  post = s.after;
  split = ap (λ (xs : List GItem). drop k xs) opened ∙ drop_at (s.before ++ front) (rest ++ s.after) k (omega (arith, at, s.place, length-append s.before front));
  level = level;
  some = some;
}
  where
    opened : spread g p ≡ (s.before ++ front) ++ (rest ++ s.after)
    opened = s.split ∙ ap (λ (xs : List GItem). s.before ++ (xs ++ s.after)) e ∙ ap (λ (xs : List GItem). s.before ++ xs) (append_assoc front rest s.after) ∙ sym (append_assoc s.before front (rest ++ s.after))

pub nothing_left : (is front rest : List GItem) → is ≡ front ++ rest → length rest ≡ 0 → is ≡ front
nothing_left is front [] e none = e ∙ append-nil front
nothing_left is front (i ∷ rest) e none = absurd (omega (arith, none))
