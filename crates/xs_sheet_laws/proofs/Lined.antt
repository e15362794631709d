-- What does not depend on lines, of the units of a sheet that some bytes have, lines aside.
use Rattle.std.proofs.Common.{◌≡◌, ℕ, List, [], ◌∷◌, map, ap, subst}
use Rattle.xs_gram.proofs.Each.{each_append}
use Rattle.xs_gram.specs.Building.{EachOf}
use Rattle.xs_sheet.specs.declared.sheet.Sheet.{Sheet}
use Rattle.xs_sheet.specs.declared.unit.Unit.{Unit}
use Rattle.xs_sheet.specs.declared.unit.Unit.TheVariants.{Terminal, Ignorable, Production, Fence}
use Rattle.xs_sheet.specs.Outline.{unit_outline}
use Rattle.xs_sheet.specs.Grammar.{IsVersion, MayStand, AllMayStand, HasRegex, HaveRegexes}
use Rattle.xs_sheet.specs.Lines.{at_line, IsReadable}
use Rattle.xs_pair.specs.Listing.{rule_in, rules_of}
use Rattle.xs_pair.proofs.Lists.{each_front, each_back}
use Rattle.xs_pair.proofs.Said.{IsSaidOfRule}
use Rattle.xs_pair.proofs.Strings.{IsLowText, rules_low}

first_same : (u v : Unit) (us vs : List Unit) → map (at_line 0) (u ∷ us) ≡ map (at_line 0) (v ∷ vs) → at_line 0 u ≡ at_line 0 v
first_same u v us vs e = cc

rest_same : (u v : Unit) (us vs : List Unit) → map (at_line 0) (u ∷ us) ≡ map (at_line 0) (v ∷ vs) → map (at_line 0) us ≡ map (at_line 0) vs
rest_same u v us vs e = cc

module _ (P : Unit → Type 0) (Q : List Unit → Type 0) (apart : (u : Unit) (us : List Unit) → Q (u ∷ us) → P u × Q us) (joined : (u : Unit) (us : List Unit) → P u → Q us → Q (u ∷ us)) (lose : (u : Unit) → P u → P (at_line 0 u)) (gain : (u : Unit) → P (at_line 0 u) → P u) where
  lined : (us vs : List Unit) → map (at_line 0) us ≡ map (at_line 0) vs → Q us → Q vs
  lined [] [] e all = all
  lined [] (v ∷ vs) e all = absurd (cc)
  lined (u ∷ us) [] e all = absurd (cc)
  lined (u ∷ us) (v ∷ vs) e all =
      let both = apart u us all in
      joined v vs (gain v (subst P (first_same u v us vs e) (lose u both.0))) (lined us vs (rest_same u v us vs e) both.1)

regex_lose : (u : Unit) → HasRegex u → HasRegex (at_line 0 u)
regex_lose (Terminal n p r l) has = has
regex_lose (Ignorable n p r m l) has = has
regex_lose (Production n a b l) has = has
regex_lose (Fence a b l) has = has

regex_gain : (u : Unit) → HasRegex (at_line 0 u) → HasRegex u
regex_gain (Terminal n p r l) has = has
regex_gain (Ignorable n p r m l) has = has
regex_gain (Production n a b l) has = has
regex_gain (Fence a b l) has = has

may_lose : (version : ℕ) (u : Unit) → MayStand version (unit_outline u) → MayStand version (unit_outline (at_line 0 u))
may_lose version (Terminal n p r l) may = may
may_lose version (Ignorable n p r m l) may = may
may_lose version (Production n a b l) may = may
may_lose version (Fence a b l) may = may

may_gain : (version : ℕ) (u : Unit) → MayStand version (unit_outline (at_line 0 u)) → MayStand version (unit_outline u)
may_gain version (Terminal n p r l) may = may
may_gain version (Ignorable n p r m l) may = may
may_gain version (Production n a b l) may = may
may_gain version (Fence a b l) may = may

-- the strings of the productions have characters alone
abbrev pub AreCharacters : List Unit → Type 0
AreCharacters us = EachOf (IsSaidOfRule IsLowText) (rules_of us)

abbrev HasCharacters : Unit → Type 0
HasCharacters u = EachOf (IsSaidOfRule IsLowText) (rule_in u)

low_lose : (u : Unit) → HasCharacters u → HasCharacters (at_line 0 u)
low_lose (Terminal n p r l) low = low
low_lose (Ignorable n p r m l) low = low
low_lose (Production n a b l) low = low
low_lose (Fence a b l) low = low

low_gain : (u : Unit) → HasCharacters (at_line 0 u) → HasCharacters u
low_gain (Terminal n p r l) low = low
low_gain (Ignorable n p r m l) low = low
low_gain (Production n a b l) low = low
low_gain (Fence a b l) low = low

pub record Spelled (s : Sheet) : Type 0 where
  pub version : IsVersion s.version
  pub regexes : HaveRegexes s.units
  pub may : AllMayStand s.version (map unit_outline s.units)
  pub low : AreCharacters s.units

pub spelled : (s : Sheet) → IsReadable s → Spelled s
spelled s readable =
    let r = readable.read in
    let sheet = readable.is in
    let version : r.version ≡ s.version = ap (λ (x : Sheet). x.version) readable.same in
    let units : map (at_line 0) r.units ≡ map (at_line 0) s.units = ap (λ (x : Sheet). x.units) readable.same in
    record {
      version = subst IsVersion version sheet.reads.version_is;
      regexes = lined HasRegex HaveRegexes (λ u us all. (all.0, all.1)) (λ u us one all. (one, all)) regex_lose regex_gain r.units s.units units sheet.regexes;
      may = subst (λ (v : ℕ). AllMayStand v (map unit_outline s.units)) version
          (lined (λ u. MayStand r.version (unit_outline u)) (λ us. AllMayStand r.version (map unit_outline us)) (λ u us all. (all.0, all.1)) (λ u us one all. (one, all)) (may_lose r.version) (may_gain r.version) r.units s.units units sheet.reads.units_may);
      low = lined HasCharacters AreCharacters
          (λ u us all. (each_front (IsSaidOfRule IsLowText) (rule_in u) (rules_of us) all, each_back (IsSaidOfRule IsLowText) (rule_in u) (rules_of us) all))
          (λ u us one all. each_append (IsSaidOfRule IsLowText) (rule_in u) (rules_of us) one all)
          low_lose low_gain r.units s.units units (rules_low readable.bytes r sheet);
    }
