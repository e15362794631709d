-- The names of a sheet's elements and attributes are Names of XML.
use Rattle.std.proofs.Common.{◌≡◌, ◌<◌, ℕ, List, [], ◌∷◌, true, length, get_or, subst, inl, inr}
use Rattle.std.specs.List.{Contains}
use Rattle.std.proofs.lemmas.List.Elements.{Contains-get_or}
use Rattle.xs_class.specs.Ordered.{AreNamesOf}
use Rattle.xs_gram.proofs.Each.{each_append}
use Rattle.xs_gram.specs.Building.{EachOf}
use Rattle.xs_xml_laws.specs.Piece.{is_name}
use Rattle.xs_pair.specs.declared.mark.Mark.{Mark}
use Rattle.xs_pair.specs.declared.mark.Mark.TheVariants.{Opening, Attribute}
use Rattle.xs_pair.specs.declared.production.Rule.{Rule}
use Rattle.xs_pair.specs.Listing.{rules_of, names_in}
use Rattle.xs_pair.specs.Marks.{mark_name, mark_names}
use Rattle.xs_pair.proofs.Lists.{each_in}
use Rattle.xs_pair.proofs.Said.{IsSaidOfName, IsSaidOfMark, IsSaidOfRule, said_of_spelt}
use Rattle.xs_writing_laws.specs.Laws.{NamesAreNames}
use Rattle.xs_writing_laws.proofs.NameWords.{IsNameText, spelt_named}

abbrev IsXmlName : List ℕ → Type 0
IsXmlName name = is_name name ≡ true

name_is : (name : List ℕ) → IsSaidOfName IsNameText name → IsXmlName name
name_is name (inl is) = is
name_is name (inr is) = is

-- the names of a mark, and of a production's marks
mark_named : (m : Mark) → IsSaidOfMark IsNameText m → EachOf IsXmlName (mark_name m)
mark_named (Opening tag names) said = (name_is tag said, tt)
mark_named (Attribute name) said = (name_is name said, tt)
mark_named m said = tt

marks_named : (ms : List Mark) → EachOf (IsSaidOfMark IsNameText) ms → EachOf IsXmlName (mark_names ms)
marks_named [] said = tt
marks_named (m ∷ ms) said = each_append IsXmlName (mark_name m) (mark_names ms) (mark_named m said.0) (marks_named ms said.1)

rules_named : (rs : List Rule) → EachOf (IsSaidOfRule IsNameText) rs → EachOf IsXmlName (names_in rs)
rules_named [] said = tt
rules_named (r ∷ rs) said = each_append IsXmlName (mark_names r.right) (names_in rs) (marks_named r.right said.0.1) (rules_named rs said.1)

all_named : (list names : List (List ℕ)) → AreNamesOf list names → EachOf IsXmlName list → (k : ℕ) (d : List ℕ) → k < length names → IsXmlName (get_or names k d)
all_named list names are each k d within =
    let has : Contains list (get_or names k d) = (are.same (get_or names k d)).0 (Contains-get_or names k d within) in
    subst IsXmlName has.2 (each_in IsXmlName list has.0 (get_or names k d) has.1 each)

pub names_lem : NamesAreNames
names_lem bytes s p read is = all_named (names_in (rules_of s.units)) p.names is.names (rules_named (rules_of s.units) (said_of_spelt IsNameText spelt_named (λ text. tt) (λ text. tt) bytes s read))
