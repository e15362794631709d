-- What holds of a document of a grammar holds of it on the grammar's side: its tree fits on either.
use Rattle.std.proofs.Common.{◌≡◌, ◌∙◌, ℕ, List, ap, refl, subst, sym}
use Rattle.xs_class.specs.declared.side.Side.{Side}
use Rattle.xs_class.specs.declared.side.Side.TheVariants.{Text, Xml}
use Rattle.xs_gram.specs.Grammar.{Grammar}
use Rattle.xs_gram.specs.Derivations.{Derivation}
use Rattle.xs_gram.specs.Common.{Common, TreeFits, print, strip}
use Rattle.xs_gram.specs.Languages.{Derives, HasTree}
use Rattle.xs_gram.specs.Sound.{IsSound}
use Rattle.xs_pair.specs.Grammars.{Pair, grammar_of, HaveSameTrees}
use Rattle.xs_table_out.specs.Documents.{document_bytes}
use Rattle.xs_turn.specs.declared.fault.TurnFault.{TurnFault}
use Rattle.xs_turn.specs.declared.fault.TurnFault.TheVariants as F
use Rattle.xs_turn.specs.Stops.{IsStop}
use Rattle.xs_turn.specs.declared.rewriting.Rewritten.TheVariants.{Written}
use Rattle.xs_turn.specs.Turned.{FitsBoth, IsRefusal, IsRewritten, IsTranslated, IsTreeIn}
use Rattle.xs_forest_laws.specs.Forest.{Forest}
use Rattle.xs_forest_laws.specs.Laws.{IsExact}
use Rattle.xs_turn.proofs.Fitting.{stripped_fits_lem}

side_sound : (p : Pair) → IsSound p.text → IsSound p.xml → (side : Side) → IsSound (grammar_of p side)
side_sound p text xml Text = text
side_sound p text xml Xml = xml

-- a tree that fits on one side fits on any
across : (p : Pair) → HaveSameTrees p.text p.xml → p.text.start ≡ p.xml.start → (side target : Side) (tree : Common) → TreeFits (grammar_of p side) (grammar_of p side).start tree → TreeFits (grammar_of p target) (grammar_of p target).start tree
across p same starts Text Text tree fits = fits
across p same starts Xml Xml tree fits = fits
across p same starts Text Xml tree fits = subst (λ n. TreeFits p.xml n tree) starts ((same p.text.start tree).0 fits)
across p same starts Xml Text tree fits = subst (λ n. TreeFits p.text n tree) (sym starts) ((same p.xml.start tree).1 fits)

own_fits : (g : Grammar) → IsSound g → (w : List ℕ) (tree : Common) → HasTree g w tree → TreeFits g g.start tree
own_fits g sound w tree has = subst (λ t. TreeFits g g.start t) has.2 (stripped_fits_lem g g.start has.0 sound.built.slots has.1.0)

-- the tree of a document fits on either side, where both have the same trees
pub fits_both : (p : Pair) → IsSound p.text → IsSound p.xml → HaveSameTrees p.text p.xml → p.text.start ≡ p.xml.start → (side : Side) (w : List ℕ) (tree : Common) → HasTree (grammar_of p side) w tree → FitsBoth p tree
fits_both p text xml same starts side w tree has to =
    across p same starts side to tree (own_fits (grammar_of p side) (side_sound p text xml side) w tree has)

-- the print of a tree of the document, by a grammar that is that of a side
pub translated : (p : Pair) → IsSound p.text → IsSound p.xml → (from to : Side) (w word : List ℕ) (tree : Common) (other : Grammar) → HasTree (grammar_of p from) w tree → other ≡ grammar_of p to → word ≡ print other tree → IsTranslated p from to w word
translated p text xml from to w word tree other has other_is is = record {
  tree = tree;
  has = has;
  printed = is ∙ ap (λ (g : Grammar). print g tree) other_is;
  fits = λ same starts. fits_both p text xml same starts from w tree has;
}

-- the print of the tree of a derivation by a grammar that is that of a side
pub guess_translated : (p : Pair) → IsSound p.text → IsSound p.xml → (from to : Side) (w word : List ℕ) (own other : Grammar) → own ≡ grammar_of p from → other ≡ grammar_of p to → (d : Derivation) × Derives own w d × (word ≡ print other (strip own d)) → IsTranslated p from to w word
guess_translated p text xml from to w word own other own_is other_is (d, derives, is) =
    let has = subst (λ (g : Grammar). HasTree g w (strip own d)) own_is (d, derives, refl) in
    translated p text xml from to w word (strip own d) other has other_is is

-- and the document of this print
pub guess_rewritten : (p : Pair) → IsSound p.text → IsSound p.xml → (from to : Side) (w bytes : List ℕ) (names : List (List ℕ)) (own other : Grammar) → names ≡ p.names → own ≡ grammar_of p from → other ≡ grammar_of p to → (d : Derivation) × Derives own w d × (bytes ≡ document_bytes to names (print other (strip own d))) → IsRewritten p from to w (Written bytes)
guess_rewritten p text xml from to w bytes names own other names_are own_is other_is (d, derives, is) =
    let word = print other (strip own d) in
    (word, guess_translated p text xml from to w word own other own_is other_is (d, derives, refl), is ∙ ap (λ (ns : List (List ℕ)). document_bytes to ns word) names_are)

pub refusal_of : {own : Grammar} (p : Pair) (side : Side) (w : List ℕ) (e : TurnFault) → own ≡ grammar_of p side → IsStop own w e → IsRefusal p side w e
refusal_of p side w (F.Foreign viable) own_is stop =
    let sides = subst (λ g. IsStop g w (F.Foreign viable)) own_is stop in
    record { foreign = sides.0; longest = sides.1 }
refusal_of p side w F.Memory own_is stop = tt

-- the tree of a derivation of the document is that of one in its exact forest
pub tree_in : {own : Grammar} (p : Pair) (side : Side) (w : List ℕ) (f : Forest) (root : ℕ) (tree : Common) → own ≡ grammar_of p side → IsExact own w f root → HasTree own w tree → IsTreeIn (grammar_of p side) w f root tree
tree_in p side w f root tree own_is exact has =
    let all = subst (λ (g : Grammar). IsExact g w f root) own_is exact in
    let h = subst (λ (g : Grammar). HasTree g w tree) own_is has in
    let u = all.unfolds h.0 h.1 in
    (u.0, u.1, h.0, u.2, h.1, h.2)

-- and the other way round
pub has_tree : (g : Grammar) (w : List ℕ) (f : Forest) (root : ℕ) (tree : Common) → IsTreeIn g w f root tree → HasTree g w tree
has_tree g w f root tree (u, unfolds, d, is, derives, stripped) = (d, derives, stripped)
