-- The names of elements and attributes in the productions of a sheet are among its names.
use Rattle.std.proofs.Common.{◌∙◌, ℕ, List, Some, ap}
use Rattle.std.specs.List.{Contains}
use Rattle.std.proofs.lemmas.Option.{get_or_from_slice_get, slice_get_within, slice_get-get_or}
use Rattle.xs_class.specs.Ordered.{AreNamesOf}
use Rattle.xs_gram.proofs.Each.{each_weaker}
use Rattle.xs_gram.specs.Building.{EachOf}
use Rattle.xs_pair.specs.declared.mark.Mark.{Mark}
use Rattle.xs_pair.specs.declared.production.Rule.{Rule}
use Rattle.xs_pair.specs.Rules.{IsAmong}
use Rattle.xs_pair.specs.Listing.{names_in}
use Rattle.xs_pair.specs.Marks.{mark_name, mark_names}
use Rattle.xs_pair.proofs.Places.{first_before}
use Rattle.xs_pair.proofs.Lists.{each_get, each_of_flat_map}

abbrev pub AreKnown : List (List ℕ) → Mark → Type 0
AreKnown names m = EachOf (IsAmong names) (mark_name m)

contained : (names : List (List ℕ)) (name : List ℕ) → Contains names name → IsAmong names name
contained names name has =
    let found = first_before names name has.0 (slice_get-get_or names has.0 name has.1 ∙ ap Some has.2) in (found.0, found.2)

-- the names of the elements and attributes in the productions are among the names
pub known_names : (rules : List Rule) (names : List (List ℕ)) → AreNamesOf (names_in rules) names → EachOf (λ (r : Rule). EachOf (AreKnown names) r.right) rules
known_names rules names are =
    let each : EachOf (IsAmong names) (names_in rules) = each_get (IsAmong names) (names_in rules) (λ k name at. contained names name ((are.same name).1 (k, slice_get_within (names_in rules) k name at, get_or_from_slice_get (names_in rules) k name name at))) in
    each_weaker (λ (r : Rule). EachOf (IsAmong names) (mark_names r.right)) (λ (r : Rule). EachOf (AreKnown names) r.right) (λ r known. each_of_flat_map (IsAmong names) mark_name r.right known) rules (each_of_flat_map (IsAmong names) (λ (r : Rule). mark_names r.right) rules each)
