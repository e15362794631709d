-- What is answered to the bytes of a document.
use Rattle.std.specs.Prelude.{◌≡◌, ℕ, List, length, encode_utf8_all}
use Rattle.std.specs.Str.{IsUtf8}
use Rattle.xs_class.specs.declared.side.Side.{Side}
use Rattle.xs_class.specs.declared.side.Side.TheVariants.{Text, Xml}
use Rattle.xs_chars.specs.declared.form.Form.{Form}
use Rattle.xs_chars.specs.declared.form.Form.TheVariants.{AsIs}
use Rattle.xs_gram.specs.Common.{Common, print, strip}
use Rattle.xs_gram.specs.Derivations.{Derivation, yield, normal}
use Rattle.xs_gram.specs.Languages.{Derives, HasTree}
use Rattle.xs_tree.specs.Counts.{capped_count}
use Rattle.xs_chars.specs.Text.{text_of}
use Rattle.xs_leiden.specs.Made.{made_text}
use Rattle.xs_pair.specs.Grammars.{Pair, grammar_of}
use Rattle.xs_outline.specs.Order.{outline_of}
use Rattle.xs_outline.specs.Outline.{IsOutline, IsBadAt}
use Rattle.xs_turn.specs.Turned.{IsForeign}
use Rattle.xs_talk.specs.Derivations.{IsListing}
use Rattle.xs_talk.specs.declared.outcome.Outcome.{Outcome}
use Rattle.xs_talk.specs.declared.outcome.Outcome.TheVariants.{Foreign, OutlineBad}
use Rattle.xs_talk.specs.Counts.{summary}
use Rattle.xs_table_out.specs.Documents.{document_bytes}
use Rattle.xs_top.specs.Documents.{IsDocument, IsNoText, IsNoDocument}

-- the bytes are a tree printed on a side: they read as the print, whose tree it is
pub record IsWrittenTree (p : Pair) (to : Side) (tree : Common) (bytes : List ℕ) : Type 0 where
  pub is : bytes ≡ document_bytes to p.names (print (grammar_of p to) tree)
  pub reads : IsDocument to AsIs p.names bytes (print (grammar_of p to) tree)
  pub back : HasTree (grammar_of p to) (print (grammar_of p to) tree) tree

-- The document has a derivation with this tree, whose print on its own side is the document with each ignorable in its
-- normal spelling; the answer is the tree printed.
pub record IsTurnedInto (p : Pair) (from to : Side) (form : Form) (bytes : List ℕ) (tree : Common) (answer : List ℕ) : Type 0 where
  pub word : List ℕ
  pub document : IsDocument from form p.names bytes word
  pub derivation : Derivation
  pub derives : Derives (grammar_of p from) word derivation
  pub tree_is : strip (grammar_of p from) derivation ≡ tree
  pub normal : print (grammar_of p from) tree ≡ yield (normal (grammar_of p from) derivation)
  pub written : IsWrittenTree p to tree answer

-- the text that is made of a seed is turned to XML, and the answer is the summary of it
pub record IsMade (p : Pair) (seed lines : ℕ) (answer : List ℕ) : Type 0 where
  pub xml : List ℕ
  pub tree : Common
  pub turned : IsTurnedInto p Text Xml AsIs (made_text seed lines) tree xml
  pub is : answer ≡ summary lines (length (made_text seed lines)) (length xml) (capped_count tree)

-- the answer is a listing of the text's derivations
pub record IsListingOf (p : Pair) (max : ℕ) (bytes answer : List ℕ) : Type 0 where
  pub word : List ℕ
  pub document : IsDocument Text AsIs p.names bytes word
  pub is : IsListing p word max answer

-- the document has a derivation, and the answer is the outline of its tree
pub record IsOutlined (p : Pair) (from : Side) (form : Form) (bytes answer : List ℕ) : Type 0 where
  pub word : List ℕ
  pub document : IsDocument from form p.names bytes word
  pub derivation : Derivation
  pub derives : Derives (grammar_of p from) word derivation
  pub is : answer ≡ encode_utf8_all (outline_of p (strip (grammar_of p from) derivation))

-- the bytes are UTF-8, and their characters, as they are, an outline of the tree
pub record IsOutlineDocument (p : Pair) (bytes : List ℕ) (tree : Common) : Type 0 where
  pub utf8 : IsUtf8 bytes
  pub outline : IsOutline p (text_of bytes AsIs) tree

-- The bytes are an outline of a tree, and the answer is the tree printed; each derivation of what the answer reads as
-- has that tree.
pub record IsMadeOfOutline (p : Pair) (to : Side) (bytes answer : List ℕ) : Type 0 where
  pub tree : Common
  pub outlined : IsOutlineDocument p bytes tree
  pub written : IsWrittenTree p to tree answer
  pub only : (word : List ℕ) (other : Derivation) → IsDocument to AsIs p.names answer word → Derives (grammar_of p to) word other → strip (grammar_of p to) other ≡ tree

-- the document has no derivation, and its first `viable` symbols are viable
pub record IsForeignDocument (p : Pair) (side : Side) (form : Form) (bytes : List ℕ) (viable : ℕ) : Type 0 where
  pub word : List ℕ
  pub document : IsDocument side form p.names bytes word
  pub foreign : IsForeign p side word viable

-- why there is no answer to a document
abbrev pub IsUnread : Pair → Side → Form → List ℕ → Outcome → Type 0
IsUnread p side form bytes (Foreign viable) = IsForeignDocument p side form bytes viable
IsUnread p side form bytes o = IsNoDocument p.names side bytes o

-- the bytes are UTF-8 and no outline, and this is the line at which it shows
pub record IsBadOutline (p : Pair) (bytes : List ℕ) (line : ℕ) : Type 0 where
  pub utf8 : IsUtf8 bytes
  pub bad : IsBadAt p (text_of bytes AsIs) line

-- why there is no answer to an outline
abbrev pub IsNoOutline : Pair → List ℕ → Outcome → Type 0
IsNoOutline p bytes (OutlineBad line) = IsBadOutline p bytes line
IsNoOutline p bytes o = IsNoText bytes o
