-- The parts of a pattern without parentheses: what stands at the front, and what is left after it.
use Rattle.std.specs.Prelude.{ℕ, zero, suc, ◌+◌, ◌-◌, ◌*◌, Bool, not, ◌&&◌, ◌||◌, ◌==◌, nat_lt, nat_le, List, [], ◌∷◌, length, None, Some, if◌then◌else◌}
use Rattle.std.specs.declared.option.Option.{Option}
use Rattle.std.specs.Option.{is_some}
use Rattle.xs_class.specs.Named.{set_named}
use Rattle.xs_class.specs.Words.{hex_value, is_digit}

-- a range of characters, or the set that a name stands for
pub data Item : Type 0 where
  span : ℕ → ℕ → Item
  named : List ℕ → Item

-- the characters of these items, or those of none of them
pub data Sort : Type 0 where
  some_of : List Item → Sort
  none_of : List Item → Sort

-- ASCII punctuation
abbrev pub is_punctuation : ℕ → Bool
is_punctuation c = (nat_le 33 c && nat_le c 47) || (nat_le 58 c && nat_le c 64) || (nat_le 91 c && nat_le c 96) || (nat_le 123 c && nat_le c 126)

-- stands for itself: none of \ / [ ] ( ) { } | * + ? .
abbrev pub is_plain : ℕ → Bool
is_plain c = not (c == 92 || c == 47 || c == 91 || c == 93 || c == 40 || c == 41 || c == 123 || c == 125 || c == 124 || c == 42 || c == 43 || c == 63 || c == 46)

-- stands for itself in brackets: none of \ / [ ] - ^
abbrev pub is_plain_member : ℕ → Bool
is_plain_member c = not (c == 92 || c == 47 || c == 91 || c == 93 || c == 45 || c == 94)

abbrev pub is_hex : ℕ → Bool
is_hex c = is_digit c || (nat_le 65 c && nat_le c 70) || (nat_le 97 c && nat_le c 102)

-- a Unicode scalar value
abbrev pub is_scalar : ℕ → Bool
is_scalar v = nat_le v 0x10FFFF && not (nat_le 0xD800 v && nat_le v 0xDFFF)

-- the values of that many hexadecimal digits are below it
abbrev pub hex_room : ℕ → ℕ
hex_room zero = 1
hex_room (suc count) = 16 * hex_room count

-- hexadecimal digits up to a closing brace, at most six in all, after some with a value
abbrev pub hex_at : ℕ → ℕ → List ℕ → Option (ℕ × List ℕ)
hex_at value count [] = None
hex_at value count (c ∷ cs) =
    if c == 125
    then (if nat_lt 0 count && is_scalar value then Some (value, cs) else None)
    else (if is_hex c && nat_lt count 6 then hex_at (16 * value + hex_value c) (suc count) cs else None)

abbrev pub code_at : List ℕ → Option (ℕ × List ℕ)
code_at [] = None
code_at (c ∷ cs) = if c == 123 then hex_at 0 0 cs else None

-- after a backslash: n, t, r, u with a code in braces, or punctuation
abbrev pub escape_at : List ℕ → Option (ℕ × List ℕ)
escape_at [] = None
escape_at (c ∷ cs) =
    if c == 110 then Some (10, cs)
    else (if c == 116 then Some (9, cs)
    else (if c == 114 then Some (13, cs)
    else (if c == 117 then code_at cs
    else (if is_punctuation c then Some (c, cs) else None))))

-- a name up to a closing brace
abbrev pub name_more : ℕ → Option (List ℕ × List ℕ) → Option (List ℕ × List ℕ)
name_more c None = None
name_more c (Some (name, left)) = Some (c ∷ name, left)

abbrev pub name_at : List ℕ → Option (List ℕ × List ℕ)
name_at [] = None
name_at (c ∷ cs) = if c == 125 then Some ([], cs) else name_more c (name_at cs)

-- after `\p`: a name in braces, of one character or more
abbrev pub name_end : Option (List ℕ × List ℕ) → Option (List ℕ × List ℕ)
name_end None = None
name_end (Some ([], left)) = None
name_end (Some (c ∷ name, left)) = Some (c ∷ name, left)

abbrev pub named_at : List ℕ → Option (List ℕ × List ℕ)
named_at [] = None
named_at (c ∷ cs) = if c == 123 then name_end (name_at cs) else None

-- one or two decimal digits without a leading zero, at most 64
abbrev pub second_digit : ℕ → List ℕ → Option (ℕ × List ℕ)
second_digit n [] = Some (n, [])
second_digit n (c ∷ cs) =
    if is_digit c
    then (if nat_lt 0 n && nat_le (10 * n + (c - 48)) 64 then Some (10 * n + (c - 48), cs) else None)
    else Some (n, c ∷ cs)

abbrev pub count_at : List ℕ → Option (ℕ × List ℕ)
count_at [] = None
count_at (c ∷ cs) = if is_digit c then second_digit (c - 48) cs else None

-- after an opening brace: a count, a count and a comma, or two counts that are in order
abbrev pub most_end : ℕ → Option (ℕ × List ℕ) → Option ((ℕ × Option ℕ) × List ℕ)
most_end least None = None
most_end least (Some (most, [])) = None
most_end least (Some (most, c ∷ cs)) = if c == 125 && nat_le least most then Some ((least, Some most), cs) else None

abbrev pub most_at : ℕ → List ℕ → Option ((ℕ × Option ℕ) × List ℕ)
most_at least [] = None
most_at least (c ∷ cs) = if c == 125 then Some ((least, None), cs) else most_end least (count_at (c ∷ cs))

abbrev pub least_end : Option (ℕ × List ℕ) → Option ((ℕ × Option ℕ) × List ℕ)
least_end None = None
least_end (Some (least, [])) = None
least_end (Some (least, c ∷ cs)) =
    if c == 125 then Some ((least, Some least), cs)
    else (if c == 44 then most_at least cs else None)

abbrev pub counts_at : List ℕ → Option ((ℕ × Option ℕ) × List ℕ)
counts_at cs = least_end (count_at cs)

-- a character in brackets
abbrev pub member_char_at : List ℕ → Option (ℕ × List ℕ)
member_char_at [] = None
member_char_at (c ∷ cs) = if c == 92 then escape_at cs else (if is_plain_member c then Some (c, cs) else None)

-- a range, whose ends are in order, or one character
abbrev pub span_end : ℕ → Option (ℕ × List ℕ) → Option (Item × List ℕ)
span_end low None = None
span_end low (Some (high, left)) = if nat_le low high then Some (span low high, left) else None

abbrev pub span_more : Option (ℕ × List ℕ) → Option (Item × List ℕ)
span_more None = None
span_more (Some (low, [])) = Some (span low low, [])
span_more (Some (low, c ∷ cs)) = if c == 45 then span_end low (member_char_at cs) else Some (span low low, c ∷ cs)

abbrev pub named_item : Option (List ℕ × List ℕ) → Option (Item × List ℕ)
named_item None = None
named_item (Some (name, left)) = Some (named name, left)

-- one item between brackets
abbrev pub escaped_item : List ℕ → Option (Item × List ℕ)
escaped_item [] = None
escaped_item (c ∷ cs) = if c == 112 then named_item (named_at cs) else span_more (escape_at (c ∷ cs))

abbrev pub item_at : List ℕ → Option (Item × List ℕ)
item_at [] = None
item_at (c ∷ cs) = if c == 92 then escaped_item cs else (if is_plain_member c then span_more (Some (c, cs)) else None)

-- a set has the name
unfoldable pub is_known : List ℕ → Bool
is_known name = is_some (set_named name)

-- the item, where a set has its name
abbrev pub known : Item → Option Item
known (span low high) = Some (span low high)
known (named name) = if is_known name then Some (named name) else None

abbrev pub with_left : List ℕ → Option Item → Option (Item × List ℕ)
with_left left None = None
with_left left (Some item) = Some (item, left)

abbrev pub known_item : Option (Item × List ℕ) → Option (Item × List ℕ)
known_item None = None
known_item (Some (item, left)) = with_left left (known item)

-- one item or more, up to the closing bracket; the first argument bounds the steps
abbrev pub item_more : Item → Option (List Item × List ℕ) → Option (List Item × List ℕ)
item_more item None = None
item_more item (Some (items, left)) = Some (item ∷ items, left)

abbrev pub items_more : Option (Item × List ℕ) → (List ℕ → Option (List Item × List ℕ)) → Option (List Item × List ℕ)
items_more None others = None
items_more (Some (item, [])) others = None
items_more (Some (item, c ∷ cs)) others = if c == 93 then Some (item ∷ [], cs) else item_more item (others (c ∷ cs))

abbrev pub items_at : ℕ → List ℕ → Option (List Item × List ℕ)
items_at zero cs = None
items_at (suc steps) cs = items_more (known_item (item_at cs)) (λ left. items_at steps left)

-- after an opening bracket
abbrev pub sorted : (List Item → Sort) → Option (List Item × List ℕ) → Option (Sort × List ℕ)
sorted sort None = None
sorted sort (Some (items, left)) = Some (sort items, left)

abbrev pub bracket_at : List ℕ → Option (Sort × List ℕ)
bracket_at [] = None
bracket_at (c ∷ cs) = if c == 94 then sorted none_of (items_at (length cs) cs) else sorted some_of (items_at (length (c ∷ cs)) (c ∷ cs))

-- outside brackets, a character that stands for itself, an escape or a named set
abbrev pub char_item : Option (ℕ × List ℕ) → Option (Item × List ℕ)
char_item None = None
char_item (Some (c, left)) = Some (span c c, left)

abbrev pub escaped_one : List ℕ → Option (Item × List ℕ)
escaped_one [] = None
escaped_one (c ∷ cs) = if c == 112 then named_item (named_at cs) else char_item (escape_at (c ∷ cs))

abbrev pub one_at : List ℕ → Option (Item × List ℕ)
one_at [] = None
one_at (c ∷ cs) = if c == 92 then escaped_one cs else (if is_plain c then Some (span c c, cs) else None)

-- such an item, a dot, or a set in brackets
abbrev pub one_set : Option (Item × List ℕ) → Option (Sort × List ℕ)
one_set None = None
one_set (Some (item, left)) = Some (some_of (item ∷ []), left)

abbrev pub set_at : List ℕ → Option (Sort × List ℕ)
set_at [] = None
set_at (c ∷ cs) =
    if c == 91 then bracket_at cs
    else (if c == 46 then Some (none_of [], cs)
    else one_set (known_item (one_at (c ∷ cs))))
