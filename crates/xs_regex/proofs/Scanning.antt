-- The reader finds what the grammar has, and nothing else.
use Rattle.std.proofs.Common.{◌≡◌, ℕ, zero, suc, ◌+◌, ◌-◌, ◌*◌, ◌<◌, ◌≤◌, Bool, true, false, ◌&&◌, ◌==◌, nat_lt, nat_le, List, [], ◌∷◌, length, ap, arith, None, Some, if◌then◌else◌}
use Rattle.std.specs.declared.option.Option.{Option}
use Rattle.xs_class.specs.Words.{is_digit, hex_value}
use Rattle.xs_regex.specs.Characters.{Item, Sort, some_of, none_of, is_punctuation, is_plain, is_plain_member, is_hex, is_scalar, hex_at, code_at, escape_at, name_more, name_at, name_end, named_at, second_digit, count_at, most_end, most_at, least_end, counts_at, member_char_at, span_end, span_more, named_item, escaped_item, item_at, known, with_left, known_item, item_more, items_more, items_at, sorted, bracket_at, char_item, escaped_one, one_at, one_set, set_at}
use Rattle.xs_regex.specs.Pattern.{Tree, IsCounted, once, star, plus, question, braces, IsRegex, one_sequence, bar, IsSequence, no_piece, pieces, ArePieces, last_piece, next_piece, IsPiece, piece, IsAtom, set, group}

-- what is left is shorter
abbrev pub Leaves : {A : Type 0} → ℕ → Option (A × List ℕ) → Type 0
Leaves n None = Unit {0}
Leaves n (Some x) = length x.1 < n

if_leaves : {A : Type 0} (n : ℕ) (b : Bool) (x y : Option (A × List ℕ)) → Leaves n x → Leaves n y → Leaves n (if b then x else y)
if_leaves n true x y h k = h
if_leaves n false x y h k = k

more_leaves : {A : Type 0} (n m : ℕ) (o : Option (A × List ℕ)) → n ≤ m → Leaves n o → Leaves m o
more_leaves n m None l h = h
more_leaves n m (Some x) l h = omega arith

hex_leaves : (v k : ℕ) (cs : List ℕ) → Leaves (length cs) (hex_at v k cs)
hex_leaves v k [] = tt
hex_leaves v k (c ∷ cs) =
    if_leaves _ (c == 125) _ _
    (if_leaves _ (nat_lt 0 k && is_scalar v) _ _ (omega arith) tt)
    (if_leaves _ (is_hex c && nat_lt k 6) _ _ (more_leaves (length cs) (suc (length cs)) (hex_at (16 * v + hex_value c) (suc k) cs) (omega arith) (hex_leaves (16 * v + hex_value c) (suc k) cs)) tt)

code_leaves : (cs : List ℕ) → Leaves (length cs) (code_at cs)
code_leaves [] = tt
code_leaves (c ∷ cs) = if_leaves _ (c == 123) _ _ (more_leaves (length cs) (suc (length cs)) (hex_at 0 0 cs) (omega arith) (hex_leaves 0 0 cs)) tt

escape_leaves : (cs : List ℕ) → Leaves (length cs) (escape_at cs)
escape_leaves [] = tt
escape_leaves (c ∷ cs) =
    if_leaves _ (c == 110) _ _ (omega arith)
    (if_leaves _ (c == 116) _ _ (omega arith)
    (if_leaves _ (c == 114) _ _ (omega arith)
    (if_leaves _ (c == 117) _ _ (more_leaves (length cs) (suc (length cs)) (code_at cs) (omega arith) (code_leaves cs))
    (if_leaves _ (is_punctuation c) _ _ (omega arith) tt))))

name_more_leaves : (n c : ℕ) (o : Option (List ℕ × List ℕ)) → Leaves n o → Leaves n (name_more c o)
name_more_leaves n c None h = h
name_more_leaves n c (Some x) h = h

name_leaves : (cs : List ℕ) → Leaves (length cs) (name_at cs)
name_leaves [] = tt
name_leaves (c ∷ cs) = if_leaves _ (c == 125) _ _ (omega arith) (name_more_leaves _ c (name_at cs) (more_leaves (length cs) (suc (length cs)) (name_at cs) (omega arith) (name_leaves cs)))

name_end_leaves : (n : ℕ) (o : Option (List ℕ × List ℕ)) → Leaves n o → Leaves n (name_end o)
name_end_leaves n None h = h
name_end_leaves n (Some ([], left)) h = tt
name_end_leaves n (Some (c ∷ name, left)) h = h

named_leaves : (cs : List ℕ) → Leaves (length cs) (named_at cs)
named_leaves [] = tt
named_leaves (c ∷ cs) = if_leaves _ (c == 123) _ _ (name_end_leaves _ (name_at cs) (more_leaves (length cs) (suc (length cs)) (name_at cs) (omega arith) (name_leaves cs))) tt

second_leaves : (m n : ℕ) (cs : List ℕ) → length cs < m → Leaves m (second_digit n cs)
second_leaves m n [] l = l
second_leaves m n (c ∷ cs) l = if_leaves m (is_digit c) _ _ (if_leaves m (nat_lt 0 n && nat_le (10 * n + (c - 48)) 64) _ _ (omega arith) tt) l

count_leaves : (cs : List ℕ) → Leaves (length cs) (count_at cs)
count_leaves [] = tt
count_leaves (c ∷ cs) = if_leaves _ (is_digit c) _ _ (second_leaves (suc (length cs)) (c - 48) cs (omega arith)) tt

most_end_leaves : (n least : ℕ) (o : Option (ℕ × List ℕ)) → Leaves n o → Leaves n (most_end least o)
most_end_leaves n least None h = tt
most_end_leaves n least (Some (most, [])) h = tt
most_end_leaves n least (Some (most, c ∷ cs)) h = if_leaves n (c == 125 && nat_le least most) _ _ (omega arith) tt

most_leaves : (least : ℕ) (cs : List ℕ) → Leaves (length cs) (most_at least cs)
most_leaves least [] = tt
most_leaves least (c ∷ cs) = if_leaves _ (c == 125) _ _ (omega arith) (most_end_leaves _ least (count_at (c ∷ cs)) (count_leaves (c ∷ cs)))

least_end_leaves : (n : ℕ) (o : Option (ℕ × List ℕ)) → Leaves n o → Leaves n (least_end o)
least_end_leaves n None h = tt
least_end_leaves n (Some (least, [])) h = tt
least_end_leaves n (Some (least, c ∷ cs)) h = if_leaves n (c == 125) _ _ (omega arith) (if_leaves n (c == 44) _ _ (more_leaves (length cs) n (most_at least cs) (omega arith) (most_leaves least cs)) tt)

counts_leaves : (cs : List ℕ) → Leaves (length cs) (counts_at cs)
counts_leaves cs = least_end_leaves (length cs) (count_at cs) (count_leaves cs)

member_char_leaves : (cs : List ℕ) → Leaves (length cs) (member_char_at cs)
member_char_leaves [] = tt
member_char_leaves (c ∷ cs) = if_leaves _ (c == 92) _ _ (more_leaves (length cs) (suc (length cs)) (escape_at cs) (omega arith) (escape_leaves cs)) (if_leaves _ (is_plain_member c) _ _ (omega arith) tt)

span_end_leaves : (n low : ℕ) (o : Option (ℕ × List ℕ)) → Leaves n o → Leaves n (span_end low o)
span_end_leaves n low None h = tt
span_end_leaves n low (Some (high, left)) h = if_leaves n (nat_le low high) _ _ h tt

span_more_leaves : (n : ℕ) (o : Option (ℕ × List ℕ)) → Leaves n o → Leaves n (span_more o)
span_more_leaves n None h = tt
span_more_leaves n (Some (low, [])) h = h
span_more_leaves n (Some (low, c ∷ cs)) h = if_leaves n (c == 45) _ _ (span_end_leaves n low (member_char_at cs) (more_leaves (length cs) n (member_char_at cs) (omega arith) (member_char_leaves cs))) h

named_item_leaves : (n : ℕ) (o : Option (List ℕ × List ℕ)) → Leaves n o → Leaves n (named_item o)
named_item_leaves n None h = tt
named_item_leaves n (Some (name, left)) h = h

escaped_item_leaves : (cs : List ℕ) → Leaves (length cs) (escaped_item cs)
escaped_item_leaves [] = tt
escaped_item_leaves (c ∷ cs) = if_leaves _ (c == 112) _ _ (named_item_leaves _ (named_at cs) (more_leaves (length cs) (suc (length cs)) (named_at cs) (omega arith) (named_leaves cs))) (span_more_leaves _ (escape_at (c ∷ cs)) (escape_leaves (c ∷ cs)))

item_leaves : (cs : List ℕ) → Leaves (length cs) (item_at cs)
item_leaves [] = tt
item_leaves (c ∷ cs) =
    if_leaves _ (c == 92) _ _ (more_leaves (length cs) (suc (length cs)) (escaped_item cs) (omega arith) (escaped_item_leaves cs))
    (if_leaves _ (is_plain_member c) _ _ (span_more_leaves (suc (length cs)) (Some (c, cs)) (omega arith)) tt)

item_more_leaves : (n : ℕ) (item : Item) (o : Option (List Item × List ℕ)) → Leaves n o → Leaves n (item_more item o)
item_more_leaves n item None h = tt
item_more_leaves n item (Some (items, left)) h = h

items_more_leaves : (n : ℕ) (o : Option (Item × List ℕ)) (others : List ℕ → Option (List Item × List ℕ)) → ((left : List ℕ) → Leaves (length left) (others left)) → Leaves n o → Leaves n (items_more o others)
items_more_leaves n None others f h = tt
items_more_leaves n (Some (item, [])) others f h = tt
items_more_leaves n (Some (item, c ∷ cs)) others f h = if_leaves n (c == 93) _ _ (omega arith) (item_more_leaves n item (others (c ∷ cs)) (more_leaves (length (c ∷ cs)) n (others (c ∷ cs)) (omega arith) (f (c ∷ cs))))

with_left_leaves : (n : ℕ) (left : List ℕ) (o : Option Item) → length left < n → Leaves n (with_left left o)
with_left_leaves n left None l = tt
with_left_leaves n left (Some item) l = l

known_item_leaves : (n : ℕ) (o : Option (Item × List ℕ)) → Leaves n o → Leaves n (known_item o)
known_item_leaves n None h = tt
known_item_leaves n (Some (item, left)) h = with_left_leaves n left (known item) h

items_leaves : (steps : ℕ) (cs : List ℕ) → Leaves (length cs) (items_at steps cs)
items_leaves zero cs = tt
items_leaves (suc steps) cs = items_more_leaves (length cs) (known_item (item_at cs)) (λ left. items_at steps left) (λ left. items_leaves steps left) (known_item_leaves (length cs) (item_at cs) (item_leaves cs))

sorted_leaves : (n : ℕ) (sort : List Item → Sort) (o : Option (List Item × List ℕ)) → Leaves n o → Leaves n (sorted sort o)
sorted_leaves n sort None h = tt
sorted_leaves n sort (Some (items, left)) h = h

bracket_leaves : (cs : List ℕ) → Leaves (length cs) (bracket_at cs)
bracket_leaves [] = tt
bracket_leaves (c ∷ cs) =
    if_leaves _ (c == 94) _ _
    (sorted_leaves _ none_of (items_at (length cs) cs) (more_leaves (length cs) (suc (length cs)) (items_at (length cs) cs) (omega arith) (items_leaves (length cs) cs)))
    (sorted_leaves _ some_of (items_at (suc (length cs)) (c ∷ cs)) (items_leaves (suc (length cs)) (c ∷ cs)))

char_item_leaves : (n : ℕ) (o : Option (ℕ × List ℕ)) → Leaves n o → Leaves n (char_item o)
char_item_leaves n None h = tt
char_item_leaves n (Some (c, left)) h = h

escaped_one_leaves : (cs : List ℕ) → Leaves (length cs) (escaped_one cs)
escaped_one_leaves [] = tt
escaped_one_leaves (c ∷ cs) = if_leaves _ (c == 112) _ _ (named_item_leaves _ (named_at cs) (more_leaves (length cs) (suc (length cs)) (named_at cs) (omega arith) (named_leaves cs))) (char_item_leaves _ (escape_at (c ∷ cs)) (escape_leaves (c ∷ cs)))

one_leaves : (cs : List ℕ) → Leaves (length cs) (one_at cs)
one_leaves [] = tt
one_leaves (c ∷ cs) = if_leaves _ (c == 92) _ _ (more_leaves (length cs) (suc (length cs)) (escaped_one cs) (omega arith) (escaped_one_leaves cs)) (if_leaves _ (is_plain c) _ _ (omega arith) tt)

one_set_leaves : (n : ℕ) (o : Option (Item × List ℕ)) → Leaves n o → Leaves n (one_set o)
one_set_leaves n None h = tt
one_set_leaves n (Some (item, left)) h = h

pub set_leaves : (cs : List ℕ) → Leaves (length cs) (set_at cs)
set_leaves [] = tt
set_leaves (c ∷ cs) =
    if_leaves _ (c == 91) _ _ (more_leaves (length cs) (suc (length cs)) (bracket_at cs) (omega arith) (bracket_leaves cs))
    (if_leaves _ (c == 46) _ _ (omega arith)
    (one_set_leaves _ (known_item (one_at (c ∷ cs))) (known_item_leaves _ (one_at (c ∷ cs)) (one_leaves (c ∷ cs)))))

-- what a part leaves is shorter than what it began with
left_of : {A : Type 0} (n : ℕ) (o : Option (A × List ℕ)) (x : A) (left : List ℕ) → Leaves n o → o ≡ Some (x, left) → length left < n
left_of n o x left h e = rw e at h

counted_shorter : {t u : Tree} {cs rest : List ℕ} → IsCounted t cs u rest → length rest ≤ length cs
counted_shorter (once p) = omega arith
counted_shorter (star e) = omega (arith, ap (λ (x : List ℕ). length x) e)
counted_shorter (plus e) = omega (arith, ap (λ (x : List ℕ). length x) e)
counted_shorter (question e) = omega (arith, ap (λ (x : List ℕ). length x) e)
counted_shorter {rest = rest} (braces least most inner e is) = omega (arith, ap (λ (x : List ℕ). length x) e, left_of (length inner) (counts_at inner) (least, most) rest (counts_leaves inner) is)

mutual
  pub regex_shorter : {d : ℕ} {t : Tree} {cs rest : List ℕ} → IsRegex d cs t rest → length rest ≤ length cs
  regex_shorter (one_sequence s) = sequence_shorter s
  regex_shorter (bar left s r) = omega (arith, sequence_shorter s, regex_shorter r)

  pub sequence_shorter : {d : ℕ} {t : Tree} {cs rest : List ℕ} → IsSequence d cs t rest → length rest ≤ length cs
  sequence_shorter no_piece = omega arith
  sequence_shorter (pieces p) = omega (arith, pieces_shorter p)

  pub pieces_shorter : {d : ℕ} {t : Tree} {cs rest : List ℕ} → ArePieces d cs t rest → length rest < length cs
  pieces_shorter (last_piece p) = piece_shorter p
  pieces_shorter (next_piece left p q) = omega (arith, piece_shorter p, pieces_shorter q)

  pub piece_shorter : {d : ℕ} {t : Tree} {cs rest : List ℕ} → IsPiece d cs t rest → length rest < length cs
  piece_shorter (piece t left a c) = omega (arith, atom_shorter a, counted_shorter c)

  pub atom_shorter : {d : ℕ} {t : Tree} {cs rest : List ℕ} → IsAtom d cs t rest → length rest < length cs
  atom_shorter {cs = cs} {rest = rest} (set s is) = left_of (length cs) (set_at cs) s rest (set_leaves cs) is
  atom_shorter (group inner e r) = omega (arith, ap (λ (x : List ℕ). length x) e, regex_shorter r)
