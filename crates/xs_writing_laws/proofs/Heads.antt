-- The names of productions, and the numbers of nonterminals.
use Rattle.std.proofs.Common.{◌≡◌, ℕ, zero, suc, List, [], ◌∷◌, Some, refl, subst}
use Rattle.std.specs.Prelude.{slice_get}
use Rattle.std.proofs.lemmas.Option.{none-some, same_Some}
use Rattle.xs_pair.proofs.Numbering.{put_in, with_names_kept}
use Rattle.xs_gram.proofs.Each.{each_weaker}
use Rattle.xs_sheet.specs.declared.unit.Unit.{Unit as SheetUnit}
use Rattle.xs_sheet.specs.declared.unit.Unit.TheVariants.{Terminal, Ignorable, Production, Fence}
use Rattle.xs_gram.specs.Building.{EachOf}
use Rattle.xs_pair.specs.declared.names.Sort.TheVariants as S
use Rattle.xs_pair.specs.declared.production.Rule.{Rule}
use Rattle.xs_pair.specs.Rules.{IsAmong}
use Rattle.xs_pair.specs.Units.{with_name, with_names, names_of, nons_of}
use Rattle.xs_pair.specs.Listing.{rules_of}

all_added : (names list : List (List ℕ)) (m : List ℕ) (k : ℕ) → slice_get list k ≡ Some m → IsAmong (with_names names list) m
all_added names [] m k at = absurd (none-some m at)
all_added names (n ∷ ns) m zero at = with_names_kept (with_name names n) ns m (subst (λ x. IsAmong (with_name names n) x) (same_Some n m at) (put_in names n))
all_added names (n ∷ ns) m (suc k) at = all_added (with_name names n) ns m k at

-- a name of a production is that of a nonterminal
pub head_among : (us : List SheetUnit) (m : List ℕ) (k : ℕ) → slice_get (names_of S.Production us) k ≡ Some m → IsAmong (nons_of us) m
head_among us m k at = all_added [] (names_of S.Production us) m k at

abbrev IsHead : List (List ℕ) → Rule → Type 0
IsHead names r = (k : ℕ) × (slice_get names k ≡ Some r.name)

heads : (us : List SheetUnit) → EachOf (IsHead (names_of S.Production us)) (rules_of us)
heads [] = tt
heads (Terminal name pattern regex line ∷ us) = heads us
heads (Ignorable name pattern regex normal line ∷ us) = heads us
heads (Fence left right line ∷ us) = heads us
heads (Production name left right line ∷ us) = ((0, refl), each_weaker (IsHead (names_of S.Production us)) (IsHead (name ∷ names_of S.Production us)) (λ r at. (suc at.0, at.1)) (rules_of us) (heads us))

-- each production's name is that of a nonterminal
pub heads_among : (us : List SheetUnit) → EachOf (λ (r : Rule). IsAmong (nons_of us) r.name) (rules_of us)
heads_among us = each_weaker (IsHead (names_of S.Production us)) (λ (r : Rule). IsAmong (nons_of us) r.name) (λ r at. head_among us r.name at.0 at.1) (rules_of us) (heads us)
