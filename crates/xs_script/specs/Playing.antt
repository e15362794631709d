-- What the requests of an edit script are answered, each of the document as it then is.
use Rattle.std.specs.Prelude.{Bool, true, false, ◌≡◌, ◌↔◌, ◌⊎◌, ℕ, ◌+◌, ◌<◌, ◌≤◌, List, [], ◌∷◌, ◌++◌, length, take, codes, decimal, ◌==◌, if◌then◌else◌}
use Rattle.xs_class.specs.Classes.{Has, IsClass}
use Rattle.xs_gram.specs.Derivations.{Derivation}
use Rattle.xs_gram.specs.Languages.{Derives, InLang, IsFront, IsViable}
use Rattle.xs_outline.specs.Lines.{text_lines}
use Rattle.xs_pair.specs.Grammars.{Pair}
use Rattle.xs_talk.specs.Words.{quoted}
use Rattle.xs_talk.specs.Derivations.{derivation_line}
use Rattle.xs_script.specs.declared.request.Request.{Request}
use Rattle.xs_script.specs.declared.request.Request.TheVariants.{Put, Tree, Next}
use Rattle.xs_edit.specs.Edits.{edited, document_limit, CanEdit}
use Rattle.xs_script.specs.Requests.{Spells, NoRequest, AreSpelt}

-- a number after a word, in a line
abbrev pub number_line : List ℕ → ℕ → List ℕ
number_line word n = word ++ decimal n ++ codes "\n"

-- a range: its first symbol, and its last one where that is another
abbrev pub range_text : List (List ℕ) → ℕ × ℕ → List ℕ
range_text names r = codes " " ++ quoted names (r.0 ∷ []) ++ (if r.0 == r.1 then [] else codes "-" ++ quoted names (r.1 ∷ []))

abbrev pub ranges_text : List (List ℕ) → List (ℕ × ℕ) → List ℕ
ranges_text names [] = []
ranges_text names (r ∷ rs) = range_text names r ++ ranges_text names rs

abbrev pub next_line : List (List ℕ) → List (ℕ × ℕ) → List ℕ
next_line names ranges = codes "next" ++ ranges_text names ranges ++ codes "\n"

-- the document is edited, or it is left as it is, since symbols that are replaced are not there or it gets too long
abbrev pub IsPutAnswer : List ℕ → ℕ → ℕ → List ℕ → List ℕ → List ℕ → Type 0
IsPutAnswer doc at cut put line new =
    (CanEdit doc at cut put × (new ≡ edited doc at cut put) × (line ≡ number_line (codes "ok ") (length new)))
    ⊎ (((length doc < at + cut) × (new ≡ doc) × (line ≡ codes "no outside\n"))
    ⊎ ((at + cut ≤ length doc) × (document_limit < length (edited doc at cut put)) × (new ≡ doc) × (line ≡ codes "no long\n")))

-- the line of a derivation of the document, or how far the document can be read, where it is foreign
abbrev pub IsTreeAnswer : Pair → List ℕ → List ℕ → Type 0
IsTreeAnswer p doc line =
    ((d : Derivation) × Derives p.text doc d × (line ≡ derivation_line p d))
    ⊎ ((InLang p.text doc → ⊥) × (k : ℕ) × IsViable p.text doc k × (line ≡ number_line (codes "foreign ") k))

-- the ranges of the symbols that keep a prefix viable, or that it is longer than the longest viable one
abbrev pub IsNextAnswer : Pair → List ℕ → ℕ → List ℕ → Type 0
IsNextAnswer p doc at line =
    ((k : ℕ) × IsViable p.text doc k × (at ≤ k) × (class : List (ℕ × ℕ)) × IsClass class × ((s : ℕ) → Has class s ↔ IsFront p.text (take at doc ++ s ∷ [])) × (line ≡ next_line p.names class))
    ⊎ ((k : ℕ) × IsViable p.text doc k × (k < at) × (line ≡ codes "no beyond\n"))

-- the line answers the request, and the document is then this one
abbrev pub Answers : Pair → List ℕ → Request → List ℕ → List ℕ → Type 0
Answers p doc (Put at cut put) line new = IsPutAnswer doc at cut put line new
Answers p doc Tree line new = IsTreeAnswer p doc line × (new ≡ doc)
Answers p doc (Next at) line new = IsNextAnswer p doc at line × (new ≡ doc)

-- a line of the script is answered by one more line, or it spells no request
abbrev pub IsLinePlayed : Pair → List ℕ → List ℕ → List ℕ → Bool → List ℕ → List ℕ → Type 0
IsLinePlayed p doc text out true new on = (r : Request) × Spells r text × (line : List ℕ) × Answers p doc r line new × (on ≡ out ++ line)
IsLinePlayed p doc text out false new on = NoRequest text

-- the lines that answer the requests in turn, and the document at the end
abbrev pub Plays : Pair → List ℕ → List Request → List ℕ → List ℕ → Type 0
Plays p doc [] lines new = (lines ≡ []) × (new ≡ doc)
Plays p doc (r ∷ rs) lines new = (line : List ℕ) × (next : List ℕ) × (more : List ℕ) × Answers p doc r line next × Plays p next rs more new × (lines ≡ line ++ more)

-- the script's answer: its lines are requests, and they are played from the empty document on
pub record IsPlayed (p : Pair) (script answer : List ℕ) : Type 0 where
  pub requests : List Request
  pub spelt : AreSpelt requests (text_lines script)
  pub document : List ℕ
  pub plays : Plays p [] requests answer document

-- That many first lines of the script were played, with these lines as answers, and this document then; the rest of the
-- script is left.
pub record IsPlaying (p : Pair) (script rest : List ℕ) (number : ℕ) (lines document : List ℕ) : Type 0 where
  pub requests : List Request
  pub done : List (List ℕ)
  pub texts : text_lines script ≡ done ++ text_lines rest
  pub spelt : AreSpelt requests done
  pub plays : Plays p [] requests lines document
  pub count : number ≡ length done
  pub room : number + length rest ≤ length script
