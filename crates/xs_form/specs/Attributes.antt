-- What the reader keeps of attributes.
use Rattle.std.specs.Prelude.{◌≡◌, ℕ, List, [], ◌∷◌, length, map, codes, Bool, true, false, not, ◌&&◌, if◌then◌else◌, Some, None}
use Rattle.std.specs.declared.option.Option.{Option}
use Rattle.std.specs.Borrow.{Bor}
use Rattle.xs_xml_laws.specs.Tables.{is_white, is_name_char, is_quote}
use Rattle.xs_xml_laws.specs.Piece as piece
use Rattle.xs_xml_laws.specs.Piece.{is_name, are_attributes}
use Rattle.xs_xml_laws.specs.Reads.{value}
use Rattle.xs_xml_laws.specs.Scan.{span, after, ◌>>=◌, attrs_at}
use Rattle.xs_form.specs.Values.{all_written, value_symbols, value_written}
use Rattle.xs_form.specs.declared.attribute.Attribute.{Attribute}
use Rattle.xs_form.specs.declared.attributes.Head.{Head as CodeHead}
use Rattle.xs_class.specs.Words.{is_empty}

-- the name, the symbols of the value, and whether the value has no reference
pub record Held : Type 0 where
  pub name : List ℕ
  pub symbols : List ℕ
  pub written : Bool

abbrev pub held : piece.Attribute → Held
held a = record { name = a.name; symbols = value false a.value; written = all_written a.value }

abbrev pub shown : Attribute → Held
shown a = record { name = a.name.now; symbols = value_symbols a.value; written = value_written a.value }

abbrev pub kept_attribute : piece.Attribute × List ℕ → Held × List ℕ
kept_attribute r = (held r.0, r.1)

abbrev pub shown_attribute : Attribute × Bor (List ℕ) → Held × List ℕ
shown_attribute r = (shown r.0, r.1.now)

-- the name, the quote and what stands after the quote
abbrev pub Head : Type 0
Head = List ℕ × ℕ × List ℕ

abbrev pub shown_head : CodeHead → Head
shown_head h = (h.name.now, h.quote, h.rest.now)

abbrev pub head_quote : List ℕ → List ℕ → List ℕ × List ℕ → Option Head
head_quote gap n (right, []) = None
head_quote gap n (right, q ∷ cs) = if not (is_empty gap) && (is_name n && is_quote q) then Some (n, q, cs) else None

abbrev pub head_right : List ℕ → List ℕ → List ℕ → Option Head
head_right gap n cs = head_quote gap n (span is_white cs)

abbrev pub head_left : List ℕ → List ℕ → List ℕ × List ℕ → Option Head
head_left gap n r = after (codes "=") r.1 >>= head_right gap n

abbrev pub head_name : List ℕ → List ℕ × List ℕ → Option Head
head_name gap r = head_left gap r.0 (span is_white r.1)

abbrev pub head_gap : List ℕ × List ℕ → Option Head
head_gap r = head_name r.0 (span is_name_char r.1)

abbrev pub head_at : List ℕ → Option Head
head_at cs = head_gap (span is_white cs)

-- the attributes that the text begins with, and the rest
pub record AreAttributes (text : List ℕ) (as_ : List Attribute) (rest : List ℕ) : Type 0 where
  pub kept : map shown as_ ≡ map held (attrs_at (length text) text).0
  pub left : rest ≡ (attrs_at (length text) text).1
  pub are : are_attributes (attrs_at (length text) text).0 ≡ true
