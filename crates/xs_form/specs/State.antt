-- The reader between two pieces, and its step over one.
use Rattle.std.specs.Prelude.{◌≡◌, ℕ, ◌<◌, List, [], ◌∷◌, ◌++◌, length, map, reverse, Bool, true, false, not, ◌==◌, ◌&&◌, ◌||◌, if◌then◌else◌, Some, None}
use Rattle.std.specs.declared.option.Option.{Option}
use Rattle.std.specs.Borrow.{Bor}
use Rattle.xs_xml_laws.specs.Tables.{is_char, is_white}
use Rattle.xs_xml_laws.specs.Piece.{is_name, same}
use Rattle.xs_xml_laws.specs.Legal.{Spot, ahead, inside, beyond, opened, closed}
use Rattle.xs_xml_laws.specs.Reads.{opening, closing, lines}
use Rattle.xs_xml_laws.specs.Scan.{span}
use Rattle.xs_form.specs.Sorted.{entry_symbols}
use Rattle.xs_form.specs.Seen.{Seen, declared, letter, given, begins, stands, ends, aside, section}
use Rattle.xs_form.specs.declared.reader.Reader.{Reader}

-- where the reader stands, the symbols so far, whether no piece was read yet, and of how many of the last pieces,
-- two at most, each is the character ]
pub record State : Type 0 where
  pub spot : Spot
  pub word : List ℕ
  pub fresh : Bool
  pub run : ℕ

abbrev pub initial : State
initial = record { spot = ahead; word = []; fresh = true; run = 0 }

-- the names of the open elements, the innermost first
abbrev pub spot_from : Bool → List (List ℕ) → Spot
spot_from true [] = beyond
spot_from false [] = ahead
spot_from ended (m ∷ ms) = inside m ms

abbrev pub now_of : Bor (List ℕ) → List ℕ
now_of name = name.now

abbrev pub stack : List (Bor (List ℕ)) → List (List ℕ)
stack open_ = reverse (map now_of open_)

abbrev pub state_of : Reader → State
state_of r = record { spot = spot_from r.ended (stack r.names.items); word = r.word; fresh = r.fresh; run = r.run }

abbrev pub is_inside : Spot → Bool
is_inside (inside m ms) = true
is_inside s = false

-- the spot after each kind of piece, where it may stand
abbrev pub only_inside : Spot → Option Spot
only_inside s = if is_inside s then Some s else None

abbrev pub lettered : Spot → ℕ → Option Spot
lettered s c = if is_inside s || is_white c then Some s else None

abbrev pub emptied : Spot → Option Spot
emptied ahead = Some beyond
emptied (inside m ms) = Some (inside m ms)
emptied beyond = None

abbrev pub left : Spot → List ℕ → Option Spot
left (inside m ms) n = if same n m then Some (closed ms) else None
left s n = None

abbrev pub next_run : ℕ → ℕ → ℕ
next_run k c = if c == 93 then (if k == 0 then 1 else 2) else 0

-- the symbols of a character of a CDATA section; cr says that a CR stands before
abbrev pub line_symbols : Bool → ℕ → List ℕ
line_symbols cr c = if c == 10 && cr then [] else ((if c == 13 then 10 else c) ∷ [])

abbrev pub moved : State → Option Spot → List ℕ → ℕ → Option State
moved st None w k = None
moved st (Some s) w k = Some (record { spot = s; word = st.word ++ w; fresh = false; run = k })

abbrev pub step : List (List ℕ) → State → Seen → Option State
step names st declared = if st.fresh then moved st (Some st.spot) [] 0 else None
step names st (letter c) = if c == 62 && st.run == 2 then None else moved st (lettered st.spot c) (if is_inside st.spot then c ∷ [] else []) (next_run st.run c)
step names st (given c) = moved st (only_inside st.spot) (c ∷ []) 0
step names st (begins n es) = moved st (opened st.spot n) (opening names n ∷ entry_symbols names es) 0
step names st (stands n es) = moved st (emptied st.spot) (opening names n ∷ (entry_symbols names es ++ closing names n ∷ [])) 0
step names st (ends n) = moved st (left st.spot n) (closing names n ∷ []) 0
step names st aside = moved st (Some st.spot) [] 0
step names st (section body) = moved st (only_inside st.spot) (lines false body) 0

-- a Char that stands for itself in content, whatever stands around it: none of <, &, >, ] and CR
abbrev pub is_bare : ℕ → Bool
is_bare c = is_char c && not (c == 60 || (c == 38 || (c == 62 || (c == 93 || c == 13))))

-- an element is open, and the text begins with a run of such characters and goes on with the rest
pub record IsRun (st : State) (text run rest : List ℕ) : Type 0 where
  pub inner : is_inside st.spot ≡ true
  pub split : (run, rest) ≡ span is_bare text
  pub some : 0 < length run

-- the state after that run
abbrev pub texted : State → List ℕ → State
texted st run = record { spot = st.spot; word = st.word ++ run; fresh = false; run = 0 }

-- the state after a step that was taken, or none after one that is refused
abbrev pub taken : Bool → State → Option State
taken true st = Some st
taken false st = None

-- the symbols of a document that ends here
abbrev pub ended_word : Spot → List ℕ → Option (List ℕ)
ended_word beyond w = Some w
ended_word s w = None

abbrev pub finished : State → Option (List ℕ)
finished st = ended_word st.spot st.word

-- the name of a tag is a Name
abbrev pub is_named : Seen → Bool
is_named (begins n es) = is_name n
is_named (stands n es) = is_name n
is_named (ends n) = is_name n
is_named s = true
