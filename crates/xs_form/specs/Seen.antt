-- What the reader keeps of a piece.
use Rattle.std.specs.Prelude.{ℕ, List, [], ◌∷◌, map, codes, Bool, true, false, ◌==◌, ◌&&◌, ◌||◌, if◌then◌else◌, Some, None, unwrap_or}
use Rattle.std.specs.declared.option.Option.{Option}
use Rattle.std.specs.Option.{option_map}
use Rattle.std.specs.Borrow.{Bor}
use Rattle.xs_xml_laws.specs.Piece.{Piece, declaration, character, line_end, reference, start_tag, empty_tag, end_tag, comment, instruction, cdata, named, ref_char, same, lower}
use Rattle.xs_xml_laws.specs.Scan.{Found, after, cut, ◌>>=◌, as_instruction}
use Rattle.xs_form.specs.Attributes.{Held, held}
use Rattle.xs_form.specs.Sorted.{keyed, held_in_order, shown_ordered}
use Rattle.xs_form.specs.declared.pieces.Event.{Event}
use Rattle.xs_form.specs.declared.pieces.Event.TheVariants.{Declaration, Character, Reference, Start, Empty, End, Aside, Section}
use Rattle.xs_form.specs.declared.pieces.TagEnd.{TagEnd}

-- the five names of references
abbrev pub named_reference : List ℕ → Option ℕ
named_reference text = named text ((codes "lt", 60) ∷ (codes "gt", 62) ∷ (codes "amp", 38) ∷ (codes "apos", 39) ∷ (codes "quot", 34) ∷ [])

-- the attributes of a tag stand in order, each as the UTF-8 of its name and the symbols of its value
pub data Seen : Type 0 where
  declared : Seen
  letter : ℕ → Seen
  given : ℕ → Seen
  begins : List ℕ → List (List ℕ × List ℕ) → Seen
  stands : List ℕ → List (List ℕ × List ℕ) → Seen
  ends : List ℕ → Seen
  aside : Seen
  section : List ℕ → Seen

abbrev pub seen : Piece → Seen
seen (declaration as_ gap) = declared
seen (character c) = letter (if c == 13 then 10 else c)
seen line_end = letter 10
seen (reference body) = given (unwrap_or (ref_char body) 0)
seen (start_tag n as_ gap) = begins n (map keyed (held_in_order (map held as_)))
seen (empty_tag n as_ gap) = stands n (map keyed (held_in_order (map held as_)))
seen (end_tag n gap) = ends n
seen (comment body) = aside
seen (instruction n body) = aside
seen (cdata body) = section body

abbrev pub found : Piece × List ℕ → Seen × List ℕ
found r = (seen r.0, r.1)

abbrev pub shown_event : Event → Seen
shown_event Declaration = declared
shown_event (Character c) = letter c
shown_event (Reference c) = given c
shown_event (Start n as_) = begins n.now (shown_ordered as_)
shown_event (Empty n as_) = stands n.now (shown_ordered as_)
shown_event (End n) = ends n.now
shown_event Aside = aside
shown_event (Section body) = section body.now

abbrev pub shown_found : Event × Bor (List ℕ) → Seen × List ℕ
shown_found r = (shown_event r.0, r.1.now)

-- what stands after a line end whose CR stands before
abbrev pub past_feed : List ℕ → List ℕ
past_feed [] = []
past_feed (c ∷ cs) = if c == 10 then cs else c ∷ cs

-- the end of a tag: whether it is that of an empty tag, and what stands after it
abbrev pub empty_end : List ℕ → Bool × List ℕ
empty_end rest = (true, rest)

abbrev pub tag_ends : List ℕ → Option (Bool × List ℕ)
tag_ends [] = None
tag_ends (c ∷ cs) = if c == 62 then Some (false, cs) else option_map empty_end (after (codes "/>") (c ∷ cs))

abbrev pub shown_end : TagEnd → Bool × List ℕ
shown_end e = (e.empty, e.rest.now)

-- a tag of this name and these attributes with such an end
abbrev pub made : List ℕ → List (List ℕ × List ℕ) → Bool × List ℕ → Seen × List ℕ
made n es (true, rest) = (stands n es, rest)
made n es (false, rest) = (begins n es, rest)

-- the settings of a declaration
abbrev pub held_version : Held → Bool
held_version h = same h.name (codes "version") && (h.written && same h.symbols (codes "1.0"))

abbrev pub held_encoding : Held → Bool
held_encoding h = same h.name (codes "encoding") && (h.written && same (map lower h.symbols) (codes "utf-8"))

abbrev pub held_standalone : Held → Bool
held_standalone h = same h.name (codes "standalone") && (h.written && (same h.symbols (codes "yes") || same h.symbols (codes "no")))

abbrev pub held_settings : List Held → Bool
held_settings (v ∷ []) = held_version v
held_settings (v ∷ a ∷ []) = held_version v && (held_encoding a || held_standalone a)
held_settings (v ∷ e ∷ s ∷ []) = held_version v && (held_encoding e && held_standalone s)
held_settings as_ = false

-- an instruction of this name, after the name
abbrev pub instruction_body : List ℕ → List ℕ → Found
instruction_body n text = cut (codes "?>") text >>= as_instruction n
