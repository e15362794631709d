-- Units that are alike: the same names, sorts, lines and productions.
use Rattle.std.proofs.Common.{◌≡◌, ◌∙◌, ℕ, zero, suc, Bool, true, false, List, [], ◌∷◌, ◌++◌, map, take, filter, cond, refl, sym, ap, Some, slice_get}
use Rattle.xs_sheet.specs.declared.unit.Unit.{Unit}
use Rattle.xs_sheet.specs.declared.unit.Unit.TheVariants.{Terminal, Ignorable, Production, Fence}
use Rattle.xs_pair.specs.declared.names.Sort.{Sort}
use Rattle.xs_pair.specs.declared.names.Sort.TheVariants as S
use Rattle.xs_pair.specs.declared.production.Rule.{Rule}
use Rattle.xs_pair.specs.Units.{unit_name, unit_line, is_of, names_of}
use Rattle.xs_pair.specs.Listing.{rule_in, rules_of}
use Rattle.xs_sheet_laws.specs.Sheets.{AreAlikeUnits, AllAlike}
use Rattle.xs_sheet_laws.proofs.Contents.{rule_same}
use Rattle.xs_sheet_laws.proofs.Alike.{regex_back}

pub record AreTwins (u v : Unit) : Type 0 where
  pub name : unit_name u ≡ unit_name v
  pub line : unit_line u ≡ unit_line v
  pub sorts : (sort : Sort) → is_of sort u ≡ is_of sort v
  pub rules : rule_in u ≡ rule_in v

terminals : (name name' pattern pattern' : List ℕ) (regex regex' : _) (line line' : ℕ) (sort : Sort) → is_of sort (Terminal name pattern regex line) ≡ is_of sort (Terminal name' pattern' regex' line')
terminals name name' pattern pattern' regex regex' line line' S.Any = refl
terminals name name' pattern pattern' regex regex' line line' S.Lexical = refl
terminals name name' pattern pattern' regex regex' line line' S.Terminal = refl
terminals name name' pattern pattern' regex regex' line line' S.Ignorable = refl
terminals name name' pattern pattern' regex regex' line line' S.Production = refl

ignorables : (name name' pattern pattern' : List ℕ) (regex regex' : _) (normal normal' : List ℕ) (line line' : ℕ) (sort : Sort) → is_of sort (Ignorable name pattern regex normal line) ≡ is_of sort (Ignorable name' pattern' regex' normal' line')
ignorables name name' pattern pattern' regex regex' normal normal' line line' S.Any = refl
ignorables name name' pattern pattern' regex regex' normal normal' line line' S.Lexical = refl
ignorables name name' pattern pattern' regex regex' normal normal' line line' S.Terminal = refl
ignorables name name' pattern pattern' regex regex' normal normal' line line' S.Ignorable = refl
ignorables name name' pattern pattern' regex regex' normal normal' line line' S.Production = refl

productions : (name name' : List ℕ) (left left' : _) (right right' : _) (line line' : ℕ) (sort : Sort) → is_of sort (Production name left right line) ≡ is_of sort (Production name' left' right' line')
productions name name' left left' right right' line line' S.Any = refl
productions name name' left left' right right' line line' S.Lexical = refl
productions name name' left left' right right' line line' S.Terminal = refl
productions name name' left left' right right' line line' S.Ignorable = refl
productions name name' left left' right right' line line' S.Production = refl

fences : (left left' right right' : List ℕ) (line line' : ℕ) (sort : Sort) → is_of sort (Fence left right line) ≡ is_of sort (Fence left' right' line')
fences left left' right right' line line' S.Any = refl
fences left left' right right' line line' S.Lexical = refl
fences left left' right right' line line' S.Terminal = refl
fences left left' right right' line line' S.Ignorable = refl
fences left left' right right' line line' S.Production = refl

pub twins : (u v : Unit) → AreAlikeUnits u v → AreTwins u v
twins (Terminal name pattern regex line) (Terminal name' pattern' regex' line') a = record {
  name = a.0;
  line = a.3;
  sorts = terminals name name' pattern pattern' regex regex' line line';
  rules = refl;
}
twins (Ignorable name pattern regex normal line) (Ignorable name' pattern' regex' normal' line') a = record {
  name = a.0;
  line = a.4;
  sorts = ignorables name name' pattern pattern' regex regex' normal normal' line line';
  rules = refl;
}
twins (Production name left right line) (Production name' left' right' line') a = record {
  name = a.0;
  line = a.3;
  sorts = productions name name' left left' right right' line line';
  rules = ap (λ (r : Rule). r ∷ []) (rule_same name name' left left' right right' line line' a.0 a.1 a.2 a.3);
}
twins (Fence left right line) (Fence left' right' line') a = record {
  name = a.0;
  line = a.2;
  sorts = fences left left' right right' line line';
  rules = refl;
}
twins u v a = absurd a

unit_back : (u v : Unit) → AreAlikeUnits u v → AreAlikeUnits v u
unit_back (Terminal name pattern regex line) (Terminal name' pattern' regex' line') a = (sym a.0, sym a.1, regex_back a.2, sym a.3)
unit_back (Ignorable name pattern regex normal line) (Ignorable name' pattern' regex' normal' line') a = (sym a.0, sym a.1, regex_back a.2, sym a.3, sym a.4)
unit_back (Production name left right line) (Production name' left' right' line') a = (sym a.0, sym a.1, sym a.2, sym a.3)
unit_back (Fence left right line) (Fence left' right' line') a = (sym a.0, sym a.1, sym a.2)
unit_back u v a = absurd a

pub all_back : (us vs : List Unit) → AllAlike us vs → AllAlike vs us
all_back [] [] a = tt
all_back (u ∷ us) (v ∷ vs) a = (unit_back u v a.0, all_back us vs a.1)
all_back us vs a = absurd a

-- names of one sort, and productions
next_name : (b c : Bool) (name name' : List ℕ) (us vs : List Unit) (u v : Unit) → b ≡ c → unit_name u ≡ unit_name v → map unit_name us ≡ map unit_name vs → map unit_name (cond b (u ∷ us) us) ≡ map unit_name (cond c (v ∷ vs) vs)
next_name true true name name' us vs u v e f g = rw (f, g) refl
next_name false false name name' us vs u v e f g = g
next_name true false name name' us vs u v e f g = cc
next_name false true name name' us vs u v e f g = cc

pub names_same : (sort : Sort) (us vs : List Unit) → AllAlike us vs → names_of sort us ≡ names_of sort vs
names_same sort [] [] a = refl
names_same sort (u ∷ us) (v ∷ vs) a =
    let t = twins u v a.0 in
    next_name (is_of sort u) (is_of sort v) [] [] (filter (is_of sort) us) (filter (is_of sort) vs) u v (t.sorts sort) t.name (names_same sort us vs a.1)
names_same sort us vs a = absurd a

pub rules_same : (us vs : List Unit) → AllAlike us vs → rules_of us ≡ rules_of vs
rules_same [] [] a = refl
rules_same (u ∷ us) (v ∷ vs) a = ap (λ (rs : List Rule). rs ++ rules_of us) (twins u v a.0).rules ∙ ap (λ (rs : List Rule). rule_in v ++ rs) (rules_same us vs a.1)
rules_same us vs a = absurd a

-- the twin at a place
pub twin_at : (us vs : List Unit) → AllAlike us vs → (k : ℕ) (u : Unit) → slice_get us k ≡ Some u → (v : Unit) × (slice_get vs k ≡ Some v) × AreAlikeUnits u v
twin_at [] [] a k u at = cc
twin_at (x ∷ us) (y ∷ vs) a zero u at = (y, refl, here x u y at a.0)
  where
    here : (x u y : Unit) → Some x ≡ Some u → AreAlikeUnits x y → AreAlikeUnits u y
    here x u y e a = rw (inside x u e) at a
      where
        inside : (x u : Unit) → Some x ≡ Some u → x ≡ u
        inside x u e = cc
twin_at (x ∷ us) (y ∷ vs) a (suc k) u at = twin_at us vs a.1 k u at
twin_at us vs a k u at = absurd a

pub fronts : (k : ℕ) (us vs : List Unit) → AllAlike us vs → AllAlike (take k us) (take k vs)
fronts zero us vs a = tt
fronts (suc k) [] [] a = tt
fronts (suc k) (u ∷ us) (v ∷ vs) a = (a.0, fronts k us vs a.1)
fronts (suc k) us vs a = absurd a
