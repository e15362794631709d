-- Lists of lists kept flat.
use Rattle.std.proofs.Common.{◌≡◌, ℕ, zero, suc, ◌+◌, ◌-◌, ◌<◌, ◌≤◌, List, [], ◌∷◌, ◌++◌, length, length-append, take, drop, get_or, slice_range, refl, sym, ◌∙◌, ap, subst, arith}
use Rattle.std.proofs.lemmas.List.{length-take-le, drop_at, take_all, drop-append-le, take-append-le, length-drop, drop-take, take-take}
use Rattle.xs_flat.specs.Flat.{lists_from, Rise, begin_of}

pub length_lists : {A : Type 0} (all : List A) (from : ℕ) (ends : List ℕ) → length (lists_from all from ends) ≡ length ends
length_lists all from [] = refl
length_lists all from (end ∷ ends) = ap suc (length_lists all end ends)

begin_next : (end : ℕ) (ends : List ℕ) (k : ℕ) → begin_of end ends k ≡ get_or (end ∷ ends) k 0
begin_next end ends zero = refl
begin_next end ends (suc k) = refl

-- list k is the stretch from where it begins up to where it ends
pub list_at : {A : Type 0} (all : List A) (from : ℕ) (ends : List ℕ) (k : ℕ) → k < length ends → get_or (lists_from all from ends) k [] ≡ slice_range all (begin_of from ends k) (get_or ends k 0)
list_at all from [] k lt = absurd (omega (arith, lt))
list_at all from (end ∷ ends) zero lt = refl
list_at all from (end ∷ ends) (suc k) lt = list_at all end ends k (omega (arith, lt)) ∙ ap (λ b. slice_range all b (get_or ends k 0)) (begin_next end ends k)

pub rise_le : (from : ℕ) (ends : List ℕ) (last : ℕ) → Rise from ends last → from ≤ last
rise_le from [] last h = omega (arith, h)
rise_le from (end ∷ ends) last h = let le = rise_le end ends last h.1 in let first = h.0 in omega (arith, le, first)

-- each list ends where it begins or later, and no later than the last
pub list_within : (from : ℕ) (ends : List ℕ) (last : ℕ) (k : ℕ) → Rise from ends last → k < length ends → (begin_of from ends k ≤ get_or ends k 0) × (get_or ends k 0 ≤ last)
list_within from [] last k h lt = absurd (omega (arith, lt))
list_within from (end ∷ ends) last zero h lt = (h.0, rise_le end ends last h.1)
list_within from (end ∷ ends) last (suc k) h lt =
    let rest = list_within end ends last k h.1 (omega (arith, lt)) in
    (subst (λ b. b ≤ get_or ends k 0) (begin_next end ends k) rest.0, rest.1)

-- ends rise if each list ends where it begins or later
pub rise_by : (from : ℕ) (ends : List ℕ) (last : ℕ) → ((k : ℕ) → k < length ends → begin_of from ends k ≤ get_or ends k 0) → begin_of from ends (length ends) ≡ last → Rise from ends last
rise_by from [] last up at = at
rise_by from (end ∷ ends) last up at = (
  up 0 (omega arith),
  rise_by end ends last (λ k lt. subst (λ b. b ≤ get_or ends k 0) (sym (begin_next end ends k)) (up (suc k) (omega (arith, lt)))) (begin_next end ends (length ends) ∙ at),
)

pub rise_more : (from : ℕ) (ends : List ℕ) (last next : ℕ) → Rise from ends last → last ≤ next → Rise from (ends ++ next ∷ []) next
rise_more from [] last next h le = (subst (λ n. n ≤ next) (sym h) le, refl)
rise_more from (end ∷ ends) last next h le = (h.0, rise_more end ends last next h.1 le)

slice_append : {A : Type 0} (all row : List A) (from end : ℕ) → from ≤ end → end ≤ length all → slice_range (all ++ row) from end ≡ slice_range all from end
slice_append all row from end le within =
    let short : end - from ≤ length (drop from all) = rw length-drop (omega arith) in
    ap (take (end - from)) (drop-append-le from all row (omega arith)) ∙ take-append-le (end - from) (drop from all) row short

-- a new last list
pub lists_more : {A : Type 0} (all row : List A) (from : ℕ) (ends : List ℕ) → Rise from ends (length all) → lists_from (all ++ row) from (ends ++ (length all + length row) ∷ []) ≡ lists_from all from ends ++ row ∷ []
lists_more all row from [] h =
    let rest : drop from (all ++ row) ≡ row = drop_at all row from (sym h) in
    let long : length row ≤ length all + length row - from = omega (arith, h) in
    ap (λ r. r ∷ []) (ap (take (length all + length row - from)) rest ∙ take_all (length all + length row - from) row long)
lists_more all row from (end ∷ ends) h =
    ap (λ l. l ∷ lists_from (all ++ row) end (ends ++ (length all + length row) ∷ [])) (slice_append all row from end h.0 (rise_le end ends (length all) h.1))
    ∙ ap (λ l. slice_range all from end ∷ l) (lists_more all row end ends h.1)

begin_le : (from : ℕ) (ends : List ℕ) (last n : ℕ) → Rise from ends last → n ≤ length ends → (from ≤ begin_of from ends n) × (begin_of from ends n ≤ last)
begin_le from ends last zero h le = (omega arith, rise_le from ends last h)
begin_le from [] last (suc n) h le = absurd (omega (arith, le))
begin_le from (end ∷ ends) last (suc n) h le =
    let rest = begin_le end ends last n h.1 (omega (arith, le)) in
    let up : end ≤ get_or (end ∷ ends) n 0 = subst (λ b. end ≤ b) (begin_next end ends n) rest.0 in
    let first = h.0 in
    (omega (arith, up, first), subst (λ b. b ≤ last) (begin_next end ends n) rest.1)

slice_take : {A : Type 0} (all : List A) (from end m : ℕ) → from ≤ end → end ≤ m → slice_range (take m all) from end ≡ slice_range all from end
slice_take all from end m up le =
    let whole : m ≡ from + (m - from) = omega arith in
    let cut : drop from (take m all) ≡ take (m - from) (drop from all) = ap (λ k. drop from (take k all)) whole ∙ drop-take from (m - from) all in
    ap (take (end - from)) cut ∙ take-take (end - from) (m - from) (drop from all) (omega arith)

-- the first lists
pub lists_take : {A : Type 0} (all : List A) (from : ℕ) (ends : List ℕ) (n : ℕ) → Rise from ends (length all) → n ≤ length ends → lists_from (take (begin_of from ends n) all) from (take n ends) ≡ take n (lists_from all from ends)
lists_take all from ends zero h le = refl
lists_take all from [] (suc n) h le = absurd (omega (arith, le))
lists_take all from (end ∷ ends) (suc n) h le =
    let within = begin_le end ends (length all) n h.1 (omega (arith, le)) in
    let m = begin_of end ends n in
    subst (λ k. lists_from (take k all) from (end ∷ take n ends) ≡ slice_range all from end ∷ take n (lists_from all end ends)) (begin_next end ends n)
    (ap (λ l. l ∷ lists_from (take m all) end (take n ends)) (slice_take all from end m h.0 within.0)
    ∙ ap (λ l. slice_range all from end ∷ l) (lists_take all end ends n h.1 (omega (arith, le))))

pub rise_take : (from : ℕ) (ends : List ℕ) (last n : ℕ) → Rise from ends last → n ≤ length ends → Rise from (take n ends) (begin_of from ends n)
rise_take from ends last zero h le = refl
rise_take from [] last (suc n) h le = absurd (omega (arith, le))
rise_take from (end ∷ ends) last (suc n) h le = (h.0, subst (Rise end (take n ends)) (begin_next end ends n) (rise_take end ends last n h.1 (omega (arith, le))))

pub length_first : {A : Type 0} (all : List A) (ends : List ℕ) (n : ℕ) → Rise 0 ends (length all) → n ≤ length ends → length (take (begin_of 0 ends n) all) ≡ begin_of 0 ends n
length_first all ends n h le = length-take-le (begin_of 0 ends n) all (begin_le 0 ends (length all) n h le).1

-- how many lists there are
pub length_seen : {A : Type 0} (all : List A) (ends : List ℕ) (seen : List (List A)) → lists_from all 0 ends ≡ seen → length ends ≡ length seen
length_seen all ends seen is = sym (length_lists all 0 ends) ∙ ap length is

-- a list that is there begins and ends within the elements
pub placed : {A : Type 0} (all : List A) (ends : List ℕ) (seen : List (List A)) (k : ℕ) → lists_from all 0 ends ≡ seen → Rise 0 ends (length all) → k < length seen → (k < length ends) × (begin_of 0 ends k ≤ get_or ends k 0) × (get_or ends k 0 ≤ length all)
placed all ends seen k is rise lt =
    let same = length_seen all ends seen is in
    let there : k < length ends = omega (arith, same, lt) in
    let within = list_within 0 ends (length all) k rise there in
    (there, within.0, within.1)

-- one list more
pub pushed : {A : Type 0} (all row all' : List A) (ends room ends' : List ℕ) (n : ℕ) (seen : List (List A)) → lists_from all 0 ends ≡ seen → Rise 0 ends (length all) → all' ≡ all ++ row → n ≡ length all' → room ≡ ends → ends' ≡ room ++ n ∷ [] → Rise 0 ends' (length all') × (lists_from all' 0 ends' ≡ seen ++ row ∷ [])
pushed all row all' ends room ends' n seen is rise long counted same next =
    let total : length all' ≡ length all + length row = ap length long ∙ length-append all row in
    let whole : ends' ≡ ends ++ (length all + length row) ∷ [] = next ∙ ap (λ e. e ++ n ∷ []) same ∙ ap (λ m. ends ++ m ∷ []) (counted ∙ total) in
    let risen = rise_more 0 ends (length all) (length all + length row) rise (omega arith) in (
      subst (λ m. Rise 0 ends' m) (sym total) (subst (λ e. Rise 0 e (length all + length row)) (sym whole) risen),
      ap (λ a. lists_from a 0 ends') long ∙ ap (lists_from (all ++ row) 0) whole ∙ lists_more all row 0 ends rise ∙ ap (λ l. l ++ row ∷ []) is,
    )

-- the first lists alone
pub shortened : {A : Type 0} (all all' : List A) (ends ends' : List ℕ) (n begin : ℕ) (seen : List (List A)) → lists_from all 0 ends ≡ seen → Rise 0 ends (length all) → n ≤ length seen → begin ≡ begin_of 0 ends n → all' ≡ take begin all → ends' ≡ take n ends → Rise 0 ends' (length all') × (lists_from all' 0 ends' ≡ take n seen)
shortened all all' ends ends' n begin seen is rise le begins first kept =
    let same = length_seen all ends seen is in
    let within : n ≤ length ends = omega (arith, same, le) in
    let front : all' ≡ take (begin_of 0 ends n) all = first ∙ ap (λ m. take m all) begins in
    let total : length all' ≡ begin_of 0 ends n = ap length front ∙ length_first all ends n rise within in (
      subst (λ m. Rise 0 ends' m) (sym total) (subst (λ e. Rise 0 e (begin_of 0 ends n)) (sym kept) (rise_take 0 ends (length all) n rise within)),
      ap (λ a. lists_from a 0 ends') front ∙ ap (lists_from (take (begin_of 0 ends n) all) 0) kept ∙ lists_take all 0 ends n rise within ∙ ap (take n) is,
    )
