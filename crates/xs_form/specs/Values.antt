-- What the reader keeps of an attribute's value.
use Rattle.std.specs.Prelude.{◌≡◌, ℕ, ◌≤◌, List, [], ◌∷◌, ◌++◌, length, Bool, true, false, not, ◌==◌, ◌&&◌, ◌||◌, if◌then◌else◌, unwrap_or}
use Rattle.std.specs.Borrow.{Bor}
use Rattle.xs_xml_laws.specs.Tables.{is_char, is_white}
use Rattle.xs_xml_laws.specs.Piece.{Bit, plain, ref, ref_char}
use Rattle.xs_xml_laws.specs.Reads.{value}
use Rattle.xs_xml_laws.specs.Scan.{bits_at}
use Rattle.xs_form.specs.declared.values.ValuePart.{ValuePart}
use Rattle.xs_form.specs.declared.values.ValuePart.TheVariants.{Written, Given}
use Rattle.xs_form.specs.declared.values.Value.{Value}
use Rattle.xs_form.specs.declared.values.Value.TheVariants.{Same, Other}

abbrev pub part_of : Bit → ValuePart
part_of (plain c) = Written c
part_of (ref body) = Given (unwrap_or (ref_char body) 0)

-- the part that stands in the text, and the rest; the same as the code has it
abbrev pub kept_part : Bit × List ℕ → ValuePart × List ℕ
kept_part r = (part_of r.0, r.1)

abbrev pub shown_part : ValuePart × Bor (List ℕ) → ValuePart × List ℕ
shown_part r = (r.0, r.1.now)

-- a CR as it is written
abbrev pub is_return : ValuePart → Bool
is_return (Written c) = c == 13
is_return (Given c) = false

abbrev pub is_written : ValuePart → Bool
is_written (Written c) = true
is_written (Given c) = false

-- the symbols of a part; cr says that a CR as it is written stands before
abbrev pub part_symbols : Bool → ValuePart → List ℕ
part_symbols cr (Written c) = if c == 10 && cr then [] else ((if is_white c then 32 else c) ∷ [])
part_symbols cr (Given c) = c ∷ []

-- no reference stands in the value
abbrev pub all_written : List Bit → Bool
all_written [] = true
all_written (b ∷ bs) = is_written (part_of b) && all_written bs

-- a Char that stands for itself in a value between these quotes, whatever stands around it
abbrev pub is_kept : ℕ → ℕ → Bool
is_kept q c = not (c == q) && (is_char c && not (c == 60 || (c == 38 || (c == 9 || (c == 10 || c == 13)))))

-- what a value holds
abbrev pub value_symbols : Value → List ℕ
value_symbols (Same text) = text.now
value_symbols (Other symbols written) = symbols

abbrev pub value_written : Value → Bool
value_written (Same text) = true
value_written (Other symbols written) = written

-- what was read, and what is left, are the whole value; cr says that a CR as it is written stands before the rest
pub record IsSoFar (q : ℕ) (text word : List ℕ) (cr written : Bool) (rest : List ℕ) : Type 0 where
  pub fuel : ℕ
  pub room : length rest ≤ fuel
  pub value_is : value false (bits_at (length text) q text).0 ≡ word ++ value cr (bits_at fuel q rest).0
  pub written_is : all_written (bits_at (length text) q text).0 ≡ (written && all_written (bits_at fuel q rest).0)
  pub rest_is : (bits_at (length text) q text).1 ≡ (bits_at fuel q rest).1

-- the value that the text begins with, and the rest
pub record IsValue (quote : ℕ) (text : List ℕ) (v : Value) (rest : List ℕ) : Type 0 where
  pub symbols : value_symbols v ≡ value false (bits_at (length text) quote text).0
  pub written : value_written v ≡ all_written (bits_at (length text) quote text).0
  pub left : rest ≡ (bits_at (length text) quote text).1
