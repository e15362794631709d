-- What is known of the regexes of a grammar, from what was tested of the units.
use Rattle.std.proofs.Common.{◌≡◌, ◌∙◌, ◌<◌, ◌+◌, sym, refl, subst, ℕ, List, [], ◌∷◌, length, map, take, get_or, Some, None, Bool, true, false}
use Rattle.std.specs.Prelude.{if◌then◌else◌}
use Rattle.std.specs.declared.option.Option.{Option}
use Rattle.std.proofs.lemmas.Option.{none-some}
use Rattle.xs_class.specs.declared.side.Side.{Side}
use Rattle.xs_class.proofs.Lists.{take_next}
use Rattle.xs_gram.proofs.Each.{each_map, each_or, each_push}
use Rattle.xs_regex.specs.declared.regex.Regex.{Regex}
use Rattle.xs_regex.specs.Matches.{Matches}
use Rattle.xs_regex.specs.Size.{HasMembers}
use Rattle.xs_regex.proofs.Meanings.{same_words}
use Rattle.xs_sheet.specs.declared.sheet.Sheet.{Sheet}
use Rattle.xs_sheet.specs.declared.unit.Unit.{Unit}
use Rattle.xs_sheet.specs.declared.unit.Unit.TheVariants.{Terminal, Ignorable, Production, Fence}
use Rattle.xs_sheet.specs.Grammar.{HaveRegexes}
use Rattle.xs_gram.specs.declared.parts.Terminal.{Terminal as GTerminal}
use Rattle.xs_gram.specs.declared.parts.Ignorable.{Ignorable as GIgnorable}
use Rattle.xs_gram.specs.declared.parts.SkipPart.{SkipPart}
use Rattle.xs_gram.specs.Building.{EachOf, skip_part}
use Rattle.xs_gram.specs.Grammar.{Grammar, term_of, skip_of, no_terminal, no_ignorable}
use Rattle.xs_gram.specs.Laws.{HasNormals}
use Rattle.xs_pair.specs.declared.ill.IllRule.TheVariants as R
use Rattle.xs_pair.specs.Grammars.{AreTermsOf, AreSkipsOf, IsGramOf}
use Rattle.xs_pair.specs.Verdict.{earlier}
use Rattle.xs_wf.specs.Units.{AreFine}
use Rattle.xs_wf.proofs.Patterns.{same_members}

-- P holds at each number, where it holds of what stands for one that is not there
-- over the front of a list that grows by its next element, where no line was found
pub fine_next : {A : Type 0} (P : A → Type 0) (xs : List A) (i : ℕ) (x : A) (o p : Option ℕ) (line : ℕ) (b : Bool) → i < length xs → x ≡ get_or xs i x → (b ≡ false → P x) → p ≡ (if b then Some (earlier o line) else o) → (o ≡ None → EachOf P (take i xs)) → p ≡ None → EachOf P (take (i + 1) xs)
fine_next P xs i x o p line true lt at here is before none = absurd (none-some (earlier o line) (sym none ∙ is))
fine_next P xs i x o p line false lt at here is before none = subst (λ l. EachOf P l) (sym (take_next xs i x lt at)) (each_push P (take i xs) x (before (sym is ∙ none)) (here refl))

terms_full : (us : List Unit) (rs : List Regex) → HaveRegexes us → AreFine R.EmptyClass us → AreTermsOf us rs → EachOf HasMembers rs
terms_full [] [] have fine are = tt
terms_full [] (r ∷ rs) have fine are = absurd are
terms_full (Terminal name pattern regex line ∷ us) [] have fine are = tt
terms_full (Terminal name pattern regex line ∷ us) (r ∷ rs) have fine are = (same_members pattern regex r have.0 are.0 fine.0, terms_full us rs have.1 fine.1 are.1)
terms_full (Ignorable name pattern regex normal line ∷ us) rs have fine are = terms_full us rs have.1 fine.1 are
terms_full (Fence left right line ∷ us) rs have fine are = terms_full us rs have.1 fine.1 are
terms_full (Production name left right line ∷ us) rs have fine are = terms_full us rs have.1 fine.1 are

skips_full : (us : List Unit) (ks : List SkipPart) → HaveRegexes us → AreFine R.EmptyClass us → AreSkipsOf us ks → EachOf (λ (k : SkipPart). HasMembers k.regex) ks
skips_full [] [] have fine are = tt
skips_full [] (k ∷ ks) have fine are = absurd are
skips_full (Ignorable name pattern regex normal line ∷ us) [] have fine are = tt
skips_full (Ignorable name pattern regex normal line ∷ us) (k ∷ ks) have fine are = (same_members pattern regex k.regex have.0 are.0 fine.0, skips_full us ks have.1 fine.1 are.2)
skips_full (Terminal name pattern regex line ∷ us) ks have fine are = skips_full us ks have.1 fine.1 are
skips_full (Fence left right line ∷ us) ks have fine are = skips_full us ks have.1 fine.1 are
skips_full (Production name left right line ∷ us) ks have fine are = skips_full us ks have.1 fine.1 are

skips_normal : (us : List Unit) (ks : List SkipPart) → HaveRegexes us → AreFine R.Normal us → AreSkipsOf us ks → EachOf (λ (k : SkipPart). Matches k.regex k.normal) ks
skips_normal [] [] have fine are = tt
skips_normal [] (k ∷ ks) have fine are = absurd are
skips_normal (Ignorable name pattern regex normal line ∷ us) [] have fine are = tt
skips_normal (Ignorable name pattern regex normal line ∷ us) (k ∷ ks) have fine are = (
  subst (λ w. Matches k.regex w) (sym are.1) (same_words pattern regex k.regex have.0 are.0 normal fine.0),
  skips_normal us ks have.1 fine.1 are.2,
)
skips_normal (Terminal name pattern regex line ∷ us) ks have fine are = skips_normal us ks have.1 fine.1 are
skips_normal (Fence left right line ∷ us) ks have fine are = skips_normal us ks have.1 fine.1 are
skips_normal (Production name left right line ∷ us) ks have fine are = skips_normal us ks have.1 fine.1 are

-- no class of a terminal or of an ignorable is empty
pub term_members : (s : Sheet) (names : List (List ℕ)) (side : Side) (g : Grammar) → HaveRegexes s.units → AreFine R.EmptyClass s.units → IsGramOf s names side g → (t : ℕ) → t < length g.terms → HasMembers (term_of g t).regex
term_members s names side g have fine of t lt =
    let each : EachOf HasMembers (map (λ (t : GTerminal). t.regex) g.terms) = terms_full s.units (map (λ (t : GTerminal). t.regex) g.terms) have fine of.terms in
    each_or (λ (t : GTerminal). HasMembers t.regex) g.terms no_terminal t (each_map (λ (t : GTerminal). t.regex) HasMembers g.terms each) tt

pub skip_members : (s : Sheet) (names : List (List ℕ)) (side : Side) (g : Grammar) → HaveRegexes s.units → AreFine R.EmptyClass s.units → IsGramOf s names side g → (k : ℕ) → k < length g.skips → HasMembers (skip_of g k).regex
skip_members s names side g have fine of k lt =
    let each : EachOf (λ (p : SkipPart). HasMembers p.regex) (map skip_part g.skips) = skips_full s.units (map skip_part g.skips) have fine of.skips in
    each_or (λ (k : GIgnorable). HasMembers k.regex) g.skips no_ignorable k (each_map skip_part (λ (p : SkipPart). HasMembers p.regex) g.skips each) tt

-- each ignorable matches its normal spelling
pub has_normals : (s : Sheet) (names : List (List ℕ)) (side : Side) (g : Grammar) → HaveRegexes s.units → AreFine R.Normal s.units → IsGramOf s names side g → HasNormals g
has_normals s names side g have fine of k =
    let each : EachOf (λ (p : SkipPart). Matches p.regex p.normal) (map skip_part g.skips) = skips_normal s.units (map skip_part g.skips) have fine of.skips in
    each_or (λ (k : GIgnorable). Matches k.regex k.normal) g.skips no_ignorable k (each_map skip_part (λ (p : SkipPart). Matches p.regex p.normal) g.skips each) refl
