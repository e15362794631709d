-- How a search grows.
use Rattle.std.proofs.Common.{◌≡◌, ℕ, ◌+◌, ◌<◌, ◌≤◌, ◌⊎◌, Bool, true, List, [], ◌∷◌, ◌++◌, length, get_or, set, take, refl, sym, ap, ◌∙◌, inl, inr, arith, length-set, get_or-set_same, get_or-set_other, append_assoc, append-nil}
use Rattle.std.specs.List.{All, Contains}
use Rattle.std.proofs.lemmas.Bool.{cases_lt, cases_eq}
use Rattle.std.proofs.lemmas.List.{take_more, take_all, take-append-le}
use Rattle.std.proofs.lemmas.List.Elements.{Contains-get_or, Contains-append_left, Contains-push, Contains-push_cases}
use Rattle.xs_clauses.specs.declared.clause.Clause.{Clause}
use Rattle.xs_clauses.specs.declared.search.Search.{Search}
use Rattle.xs_clauses.specs.Made.{IsMade, by}
use Rattle.xs_clauses.specs.Search.{IsSet, clause_of, no_clause, Fits, IsMarked, Grows, IsSettled, IsFirstUnset, IsClosed, AreUsesTo}
use Rattle.xs_clauses.proofs.Flags.{taken_within, set_within, set_more, set_here, set_cases}
use Rattle.xs_clauses.proofs.Complete.{all_made}

-- a dot that is moved over premises whose flags are set
pub fits_moved : (clauses : List Clause) (flags : List Bool) (found dots : List ℕ) (k from dot : ℕ) (premises : List ℕ) → premises ≡ (clause_of clauses k).premises → from ≡ get_or dots k 0 → k < length clauses → Fits clauses flags found dots → IsFirstUnset premises from flags dot → Fits clauses flags found (set dots k dot)
fits_moved clauses flags found dots k from dot premises e f l fits first = record {
  made = fits.made;
  known = fits.known;
  set = fits.set;
  counted = length-set dots k dot ∙ fits.counted;
  within = λ j. elim (cases_eq j k) [
    | inl s ↦ rw (s, get_or-set_same dots k dot 0 in_dots, ← e) first.high
    | inr ne ↦ rw (get_or-set_other dots k j dot 0 ne) (fits.within j)
  ];
  passed = λ j i h. elim (cases_eq j k) [
    | inl s ↦ rw (s, ← e) (here i (rw (s, get_or-set_same dots k dot 0 in_dots) at h))
    | inr ne ↦ fits.passed j i (rw (get_or-set_other dots k j dot 0 ne) at h)
  ];
}
  where
    in_dots : k < length dots
    in_dots = omega (arith, fits.counted)

    here : (i : ℕ) → i < dot → IsSet flags (get_or premises i 0)
    here i h = elim (cases_lt i from) [
      | inl low ↦ rw e (fits.passed k i (omega (arith, f)))
      | inr high ↦ first.passed i high h
    ]

-- the head of a clause all of whose premises were passed
pub head_made : (clauses : List Clause) (flags : List Bool) (found dots : List ℕ) (k from dot : ℕ) (premises : List ℕ) → premises ≡ (clause_of clauses k).premises → from ≡ get_or dots k 0 → k < length clauses → Fits clauses flags found dots → IsFirstUnset premises from flags dot → length premises ≤ dot → IsMade clauses (clause_of clauses k).head
head_made clauses flags found dots k from dot premises e f l fits first end =
    let moved = fits_moved clauses flags found dots k from dot premises e f l fits first in
    let here : get_or (set dots k dot) k 0 ≡ dot = get_or-set_same dots k dot 0 (omega (arith, fits.counted)) in
    by (clause_of clauses k) (Contains-get_or clauses k no_clause l) refl (all_made clauses (clause_of clauses k).premises (λ i h. fits.made (get_or (clause_of clauses k).premises i 0) (moved.passed k i (omega (arith, here, ap length e)))))

-- a number that is made is marked
pub fits_marked : (clauses : List Clause) (old new : Search) (n : ℕ) → Fits clauses old.flags.items old.found.items old.dots.items → IsMade clauses n → n < length old.flags.items → IsMarked old new n → Fits clauses new.flags.items new.found.items new.dots.items
fits_marked clauses old new n fits made l marked = record {
  made = λ m h. elim (set_cases old.flags.items n m (rw marked.flags at h)) [ inl e ↦ rw e made | inr s ↦ fits.made m s ];
  known = λ m h. elim marked.found [
    | inl same ↦ rw same.1 (elim (set_cases old.flags.items n m (rw marked.flags at h)) [ inl e ↦ rw e (fits.known n same.0) | inr s ↦ fits.known m s ])
    | inr more ↦ rw more (elim (set_cases old.flags.items n m (rw marked.flags at h)) [ inl e ↦ rw e (Contains-push old.found.items n) | inr s ↦ Contains-append_left old.found.items (n ∷ []) m (fits.known m s) ])
  ];
  set = λ m h. rw marked.flags (elim marked.found [
    | inl same ↦ set_more old.flags.items n m (fits.set m (rw same.1 at h))
    | inr more ↦ elim (Contains-push_cases old.found.items n m (rw more at h)) [
      | inl c ↦ set_more old.flags.items n m (fits.set m c)
      | inr e ↦ rw (← e) (set_here old.flags.items n l)
    ]
  ]);
  counted = rw marked.dots fits.counted;
  within = λ k. rw marked.dots (fits.within k);
  passed = λ k i h. rw marked.flags (set_more old.flags.items n _ (fits.passed k i (rw marked.dots at h)));
}

pub grows_same : (s : Search) → Grows s s
grows_same s = record { count = refl; kept = λ n h. h; added = []; longer = sym (append-nil s.found.items) }

pub grows_then : (a b c : Search) → Grows a b → Grows b c → Grows a c
grows_then a b c g h = record {
  count = h.count ∙ g.count;
  kept = λ n s. h.kept n (g.kept n s);
  added = g.added ++ h.added;
  longer = h.longer ∙ ap (λ (xs : List ℕ). xs ++ h.added) g.longer ∙ append_assoc a.found.items g.added h.added;
}

-- only the dots of the two first ones differ
pub grows_marked : (s old new : Search) (n : ℕ) → old.flags.items ≡ s.flags.items → old.found.items ≡ s.found.items → IsMarked old new n → Grows s new
grows_marked s old new n e f marked = record {
  count = ap length marked.flags ∙ length-set old.flags.items n true ∙ ap length e;
  kept = λ m h. rw (marked.flags, e) (set_more s.flags.items n m h);
  added = elim marked.found as (λ _. List ℕ) [ inl same ↦ [] | inr more ↦ n ∷ [] ];
  longer = longer marked.found;
}
  where
    longer : (o : (IsSet old.flags.items n × (new.found.items ≡ old.found.items)) ⊎ (new.found.items ≡ old.found.items ++ n ∷ [])) → new.found.items ≡ s.found.items ++ elim o as (λ _. List ℕ) [ inl same ↦ [] | inr more ↦ n ∷ [] ]
    longer (inl same) = same.1 ∙ f ∙ sym (append-nil s.found.items)
    longer (inr more) = more ∙ ap (λ (xs : List ℕ). xs ++ n ∷ []) f

-- what was found is found
pub found_on : (old new : Search) → Grows old new → (n : ℕ) → Contains old.found.items n → Contains new.found.items n
found_on old new g n h = rw g.longer (Contains-append_left old.found.items g.added n h)

-- a clause stays settled while flags are set, also for fewer numbers
pub settled_on : (clauses : List Clause) (flags more : List Bool) (seen fewer : List ℕ) (k : ℕ) → ((n : ℕ) → IsSet flags n → IsSet more n) → ((n : ℕ) → Contains fewer n → Contains seen n) → IsSettled clauses flags seen k → IsSettled clauses more fewer k
settled_on clauses flags more seen fewer k kept within (inl s) = inl (kept _ s)
settled_on clauses flags more seen fewer k kept within (inr w) = inr (w.0, w.1, λ c. w.2 (within w.0 c))

-- a clause whose head is marked, and one that waits for a premise
pub settled_marked : (clauses : List Clause) (flags more : List Bool) (seen : List ℕ) (k n : ℕ) → n ≡ (clause_of clauses k).head → n < length flags → more ≡ set flags n true → IsSettled clauses more seen k
settled_marked clauses flags more seen k n e l m = inl (rw (m, ← e) (set_here flags n l))

pub settled_waits : (clauses : List Clause) (flags : List Bool) (found dots : List ℕ) (k from dot : ℕ) (premises : List ℕ) → premises ≡ (clause_of clauses k).premises → Fits clauses flags found dots → IsFirstUnset premises from flags dot → dot < length premises → IsSettled clauses flags found k
settled_waits clauses flags found dots k from dot premises e fits first l = inr (get_or premises dot 0, rw (← e) (Contains-get_or premises dot 0 l), λ c. first.stopped l (fits.set (get_or premises dot 0) c))

-- the clauses that have the next found number as a premise are settled anew
pub settled_turn : (clauses : List Clause) (flags more : List Bool) (found longer added row : List ℕ) (place number k : ℕ) → longer ≡ found ++ added → place < length found → number ≡ get_or found place number → ((n : ℕ) → IsSet flags n → IsSet more n) → (Contains (clause_of clauses k).premises number → Contains row k) → (Contains row k → IsSettled clauses more found k) → IsSettled clauses flags (take place found) k → IsSettled clauses more (take (place + 1) longer) k
settled_turn clauses flags more found longer added row place number k e l r kept in_row turned (inl s) = inl (kept _ s)
settled_turn clauses flags more found longer added row place number k e l r kept in_row turned (inr w) = elim (cases_eq w.0 number) [
  | inl same ↦ settled_on clauses more more found (take (place + 1) longer) k (λ n h. h) within (turned (in_row (rw same at w.1)))
  | inr ne ↦ inr (w.0, w.1, λ c. elim (Contains-push_cases (take place found) number w.0 (rw front at c)) [ inl h ↦ w.2 h | inr h ↦ ne (sym h) ])
]
  where
    front : take (place + 1) longer ≡ take place found ++ number ∷ []
    front = rw e (take-append-le (place + 1) found added (omega arith)) ∙ take_more found place number l ∙ ap (λ (x : ℕ). take place found ++ x ∷ []) (sym r)

    within : (n : ℕ) → Contains (take (place + 1) longer) n → Contains found n
    within n c = elim (Contains-push_cases (take place found) number n (rw front at c)) [
      | inl h ↦ taken_within place found n h
      | inr h ↦ rw (← h, r) (Contains-get_or found place number l)
    ]

-- all numbers that were found were gone through
pub closed_end : (clauses : List Clause) (flags : List Bool) (found dots : List ℕ) (place : ℕ) → Fits clauses flags found dots → ((k : ℕ) → k < length clauses → IsSettled clauses flags (take place found) k) → length found ≤ place → IsClosed clauses flags
closed_end clauses flags found dots place fits settled end k l each = elim (settled k l) [
  | inl s ↦ s
  | inr w ↦ absurd (w.2 (rw (take_all place found end) (fits.known w.0 (each w.0 w.1))))
]

-- a row has only places of clauses
pub row_places : (clauses : List Clause) (end : ℕ) (uses : List (List ℕ)) (n : ℕ) (row : List ℕ) → row ≡ get_or uses n [] → AreUsesTo clauses end uses → All (λ k. k < length clauses) row
row_places clauses end uses n row e all = λ k d l. all.places n (get_or row k d) (rw (← e) (Contains-get_or row k d l))

-- a found number has a flag
pub found_low : (clauses : List Clause) (flags : List Bool) (found dots : List ℕ) (place number : ℕ) → place < length found → number ≡ get_or found place number → Fits clauses flags found dots → number < length flags
found_low clauses flags found dots place number l e fits = set_within flags number (fits.set number (rw e (Contains-get_or found place number l)))
