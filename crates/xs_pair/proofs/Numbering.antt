-- Numbers of names, of terminals, nonterminals and slots.
use Rattle.std.proofs.Common.{◌≡◌, ◌⊎◌, ◌∙◌, ◌<◌, inl, inr, ap, sym, refl, subst, ℕ, suc, zero, List, [], ◌∷◌, ◌++◌, length, map, Some, None, arith, slice_get}
use Rattle.std.specs.declared.option.Option.{Option}
use Rattle.std.specs.Option.{option_map}
use Rattle.std.proofs.lemmas.Option.{none-some, same_Some, slice_get_within, slice_get-map}
use Rattle.xs_class.specs.Ordered.{place_of}
use Rattle.xs_class.proofs.Lists.{get_left, get_last}
use Rattle.xs_sheet.specs.declared.unit.Unit.{Unit}
use Rattle.xs_sheet.specs.declared.unit.Unit.TheVariants as V
use Rattle.xs_pair.specs.declared.names.Sort.TheVariants as S
use Rattle.xs_pair.specs.declared.production.Rule.{Rule}
use Rattle.xs_pair.specs.Listing.{rules_of}
use Rattle.xs_pair.specs.Units.{names_of, nons_of, terms_of, skips_of, with_name, with_names, firsts, number_of, or_zero}
use Rattle.xs_pair.specs.Rules.{IsAmong}
use Rattle.xs_pair.proofs.Places.{found_there, first_before}

-- the number of a name that is there
pub number_is : (ns : List (List ℕ)) (name : List ℕ) (k : ℕ) → place_of ns name ≡ Some k → number_of ns name ≡ k
number_is ns name k is = ap or_zero is

pub number_bound : (ns : List (List ℕ)) (name : List ℕ) → IsAmong ns name → number_of ns name < length ns
number_bound ns name (k, is) = let within = slice_get_within ns k name (found_there ns name k is) in let same = number_is ns name k is in omega arith

-- a name that stands somewhere is there
pub among_at : (ns : List (List ℕ)) (k : ℕ) (name : List ℕ) → slice_get ns k ≡ Some name → IsAmong ns name
among_at ns k name at = let (j, le, is) = first_before ns name k at in (j, is)

among_rest : (n : List ℕ) (ns : List (List ℕ)) (name : List ℕ) → IsAmong ns name → IsAmong (n ∷ ns) name
among_rest n ns name (k, is) = among_at (n ∷ ns) (suc k) name (found_there ns name k is)

among_cons : (n : List ℕ) (ns : List (List ℕ)) (name : List ℕ) → IsAmong (n ∷ ns) name → (n ≡ name) ⊎ IsAmong ns name
among_cons n ns name (k, is) = by_case k (found_there (n ∷ ns) name k is)
  where
    by_case : (k : ℕ) → slice_get (n ∷ ns) k ≡ Some name → (n ≡ name) ⊎ IsAmong ns name
    by_case zero at = inl (same_Some n name at)
    by_case (suc j) at = inr (among_at ns j name at)

pub kept : (ns : List (List ℕ)) (n name : List ℕ) → IsAmong ns name → IsAmong (with_name ns n) name
kept ns n name (k, is) = by_case (place_of ns n)
  where
    by_case : (o : Option ℕ) → IsAmong (elim o [ None ↦ ns ++ n ∷ [] | Some j ↦ ns ]) name
    by_case None = among_at (ns ++ n ∷ []) k name (get_left ns (n ∷ []) k name (found_there ns name k is))
    by_case (Some j) = (k, is)

pub put_in : (ns : List (List ℕ)) (n : List ℕ) → IsAmong (with_name ns n) n
put_in ns n = by_case (place_of ns n) refl
  where
    by_case : (o : Option ℕ) → place_of ns n ≡ o → IsAmong (elim o [ None ↦ ns ++ n ∷ [] | Some j ↦ ns ]) n
    by_case None is = among_at (ns ++ n ∷ []) (length ns) n (get_last ns n)
    by_case (Some j) is = (j, is)

pub with_names_kept : (ns list : List (List ℕ)) (name : List ℕ) → IsAmong ns name → IsAmong (with_names ns list) name
with_names_kept ns [] name among = among
with_names_kept ns (n ∷ list) name among = with_names_kept (with_name ns n) list name (kept ns n name among)

with_names_new : (ns list : List (List ℕ)) (name : List ℕ) → IsAmong list name → IsAmong (with_names ns list) name
with_names_new ns [] name (k, is) = absurd (none-some k is)
with_names_new ns (n ∷ list) name among = by_case (among_cons n list name among) (λ rest. with_names_new (with_name ns n) list name rest)
  where
    by_case : (n ≡ name) ⊎ IsAmong list name → (IsAmong list name → IsAmong (with_names (with_name ns n) list) name) → IsAmong (with_names (with_name ns n) list) name
    by_case (inl same) later = with_names_kept (with_name ns n) list name (subst (λ m. IsAmong (with_name ns n) m) same (put_in ns n))
    by_case (inr rest) later = later rest

-- each name of a list is among its first places
pub firsts_have : (list : List (List ℕ)) (name : List ℕ) → IsAmong list name → IsAmong (firsts list) name
firsts_have list name among = with_names_new [] list name among

-- the names of the productions
pub rule_names : (us : List Unit) → map (λ (r : Rule). r.name) (rules_of us) ≡ names_of S.Production us
rule_names [] = refl
rule_names (V.Terminal name pattern regex line ∷ us) = rule_names us
rule_names (V.Ignorable name pattern regex normal line ∷ us) = rule_names us
rule_names (V.Fence left right line ∷ us) = rule_names us
rule_names (V.Production name left right line ∷ us) = ap (λ (l : List (List ℕ)). name ∷ l) (rule_names us)

pub rule_is_named : (us : List Unit) (k : ℕ) (r : Rule) → slice_get (rules_of us) k ≡ Some r → IsAmong (nons_of us) r.name
rule_is_named us k r at =
    firsts_have (names_of S.Production us) r.name (among_at (names_of S.Production us) k r.name
    (ap (λ l. slice_get l k) (sym (rule_names us)) ∙ slice_get-map (λ (q : Rule). q.name) (rules_of us) k ∙ ap (option_map (λ (q : Rule). q.name)) at))

-- a unit's name is that of a terminal, an ignorable or a production
pub sorted : (us : List Unit) (name : List ℕ) → IsAmong (names_of S.Any us) name → IsAmong (terms_of us) name ⊎ (IsAmong (skips_of us) name ⊎ IsAmong (names_of S.Production us) name)
sorted [] name (k, is) = absurd (none-some k is)
sorted (V.Terminal n pattern regex line ∷ us) name among = by_case (among_cons n (names_of S.Any us) name among) (λ rest. sorted us name rest)
  where
    by_case : (n ≡ name) ⊎ IsAmong (names_of S.Any us) name → (IsAmong (names_of S.Any us) name → IsAmong (terms_of us) name ⊎ (IsAmong (skips_of us) name ⊎ IsAmong (names_of S.Production us) name)) → IsAmong (n ∷ terms_of us) name ⊎ (IsAmong (skips_of us) name ⊎ IsAmong (names_of S.Production us) name)
    by_case (inl same) later = inl (among_at (n ∷ terms_of us) 0 name (ap Some same))
    by_case (inr rest) later = place (later rest)
      where
        place : IsAmong (terms_of us) name ⊎ (IsAmong (skips_of us) name ⊎ IsAmong (names_of S.Production us) name) → IsAmong (n ∷ terms_of us) name ⊎ (IsAmong (skips_of us) name ⊎ IsAmong (names_of S.Production us) name)
        place (inl h) = inl (among_rest n (terms_of us) name h)
        place (inr h) = inr h
sorted (V.Ignorable n pattern regex normal line ∷ us) name among = by_case (among_cons n (names_of S.Any us) name among) (λ rest. sorted us name rest)
  where
    by_case : (n ≡ name) ⊎ IsAmong (names_of S.Any us) name → (IsAmong (names_of S.Any us) name → IsAmong (terms_of us) name ⊎ (IsAmong (skips_of us) name ⊎ IsAmong (names_of S.Production us) name)) → IsAmong (terms_of us) name ⊎ (IsAmong (n ∷ skips_of us) name ⊎ IsAmong (names_of S.Production us) name)
    by_case (inl same) later = inr (inl (among_at (n ∷ skips_of us) 0 name (ap Some same)))
    by_case (inr rest) later = place (later rest)
      where
        place : IsAmong (terms_of us) name ⊎ (IsAmong (skips_of us) name ⊎ IsAmong (names_of S.Production us) name) → IsAmong (terms_of us) name ⊎ (IsAmong (n ∷ skips_of us) name ⊎ IsAmong (names_of S.Production us) name)
        place (inl h) = inl h
        place (inr (inl h)) = inr (inl (among_rest n (skips_of us) name h))
        place (inr (inr h)) = inr (inr h)
sorted (V.Fence left right line ∷ us) name among = sorted us name among
sorted (V.Production n left right line ∷ us) name among = by_case (among_cons n (names_of S.Any us) name among) (λ rest. sorted us name rest)
  where
    by_case : (n ≡ name) ⊎ IsAmong (names_of S.Any us) name → (IsAmong (names_of S.Any us) name → IsAmong (terms_of us) name ⊎ (IsAmong (skips_of us) name ⊎ IsAmong (names_of S.Production us) name)) → IsAmong (terms_of us) name ⊎ (IsAmong (skips_of us) name ⊎ IsAmong (n ∷ names_of S.Production us) name)
    by_case (inl same) later = inr (inr (among_at (n ∷ names_of S.Production us) 0 name (ap Some same)))
    by_case (inr rest) later = place (later rest)
      where
        place : IsAmong (terms_of us) name ⊎ (IsAmong (skips_of us) name ⊎ IsAmong (names_of S.Production us) name) → IsAmong (terms_of us) name ⊎ (IsAmong (skips_of us) name ⊎ IsAmong (n ∷ names_of S.Production us) name)
        place (inl h) = inl h
        place (inr (inl h)) = inr (inl h)
        place (inr (inr h)) = inr (inr (among_rest n (names_of S.Production us) name h))
