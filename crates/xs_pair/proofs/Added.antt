-- Regexes of terminals and parts of ignorables, unit by unit.
use Rattle.std.proofs.Common.{◌≡◌, ◌∙◌, ◌<◌, ◌+◌, sym, subst, ℕ, suc, zero, List, [], ◌∷◌, ◌++◌, append-nil, length, take, get_or, Some, slice_get}
use Rattle.std.proofs.lemmas.Option.{none-some, same_Some}
use Rattle.xs_class.proofs.Lists.{take_next}
use Rattle.xs_gram.proofs.Each.{each_append}
use Rattle.xs_regex.specs.declared.regex.Regex.{Regex}
use Rattle.xs_sheet.specs.declared.unit.Unit.{Unit}
use Rattle.xs_sheet.specs.declared.unit.Unit.TheVariants.{Terminal, Ignorable, Production, Fence}
use Rattle.xs_sheet.specs.Grammar.{HasRegex, HaveRegexes}
use Rattle.xs_gram.specs.declared.parts.SkipPart.{SkipPart}
use Rattle.xs_gram.specs.Building.{EachOf, IsFit}
use Rattle.xs_pair.specs.Grammars.{AreTermsOf, AreSkipsOf, IsTermAdded, IsSkipAdded}

-- each unit has the regex of its pattern
pub has_regex : (us : List Unit) (k : ℕ) (u : Unit) → HaveRegexes us → slice_get us k ≡ Some u → HasRegex u
has_regex [] k u all at = absurd (none-some u at)
has_regex (v ∷ us) zero u all at = subst HasRegex (same_Some v u at) all.0
has_regex (v ∷ us) (suc k) u all at = has_regex us k u all.1 at

terms_append : (us vs : List Unit) (rs qs : List Regex) → AreTermsOf us rs → AreTermsOf vs qs → AreTermsOf (us ++ vs) (rs ++ qs)
terms_append [] vs [] qs are more = more
terms_append [] vs (r ∷ rs) qs are more = absurd are
terms_append (Terminal n p x l ∷ us) vs [] qs are more = absurd are
terms_append (Terminal n p x l ∷ us) vs (r ∷ rs) qs are more = (are.0, terms_append us vs rs qs are.1 more)
terms_append (Ignorable n p x m l ∷ us) vs rs qs are more = terms_append us vs rs qs are more
terms_append (Production n a b l ∷ us) vs rs qs are more = terms_append us vs rs qs are more
terms_append (Fence a b l ∷ us) vs rs qs are more = terms_append us vs rs qs are more

-- what a unit adds is what it has alone
term_added : (u : Unit) (old new : List Regex) → IsTermAdded u old new → (qs : List Regex) × AreTermsOf (u ∷ []) qs × EachOf IsFit qs × (new ≡ old ++ qs)
term_added (Terminal name pattern regex line) old new (r, of, here, is) = (r ∷ [], (of, tt), (here, tt), is)
term_added u old new is = ([], tt, tt, is ∙ sym (append-nil old))

-- one more unit, by what it adds
terms_more : (us : List Unit) (u : Unit) (old new : List Regex) → AreTermsOf us old → EachOf IsFit old → IsTermAdded u old new → AreTermsOf (us ++ u ∷ []) new × EachOf IsFit new
terms_more us u old new are fit added =
    let more = term_added u old new added in
    subst (λ rs. AreTermsOf (us ++ u ∷ []) rs × EachOf IsFit rs) (sym more.3) (terms_append us (u ∷ []) old more.0 are more.1, each_append IsFit old more.0 fit more.2)

skips_append : (us vs : List Unit) (ks qs : List SkipPart) → AreSkipsOf us ks → AreSkipsOf vs qs → AreSkipsOf (us ++ vs) (ks ++ qs)
skips_append [] vs [] qs are more = more
skips_append [] vs (k ∷ ks) qs are more = absurd are
skips_append (Ignorable n p x m l ∷ us) vs [] qs are more = absurd are
skips_append (Ignorable n p x m l ∷ us) vs (k ∷ ks) qs are more = (are.0, are.1, skips_append us vs ks qs are.2 more)
skips_append (Terminal n p x l ∷ us) vs ks qs are more = skips_append us vs ks qs are more
skips_append (Production n a b l ∷ us) vs ks qs are more = skips_append us vs ks qs are more
skips_append (Fence a b l ∷ us) vs ks qs are more = skips_append us vs ks qs are more

skip_added : (u : Unit) (old new : List SkipPart) → IsSkipAdded u old new → (qs : List SkipPart) × AreSkipsOf (u ∷ []) qs × EachOf (λ (k : SkipPart). IsFit k.regex) qs × (new ≡ old ++ qs)
skip_added (Ignorable name pattern regex normal line) old new (k, of, here, said, is) = (k ∷ [], (of, said, tt), (here, tt), is)
skip_added u old new is = ([], tt, tt, is ∙ sym (append-nil old))

skips_more : (us : List Unit) (u : Unit) (old new : List SkipPart) → AreSkipsOf us old → EachOf (λ (k : SkipPart). IsFit k.regex) old → IsSkipAdded u old new → AreSkipsOf (us ++ u ∷ []) new × EachOf (λ (k : SkipPart). IsFit k.regex) new
skips_more us u old new are fit added =
    let more = skip_added u old new added in
    let each = each_append (λ (k : SkipPart). IsFit k.regex) old more.0 fit more.2 in
    subst (λ ks. AreSkipsOf (us ++ u ∷ []) ks × EachOf (λ (k : SkipPart). IsFit k.regex) ks) (sym more.3) (skips_append us (u ∷ []) old more.0 are more.1, each)

-- the same, over the front of a list that grows by its next unit
pub terms_next : (us : List Unit) (i : ℕ) (u : Unit) (old new : List Regex) → i < length us → u ≡ get_or us i u → AreTermsOf (take i us) old × EachOf IsFit old → IsTermAdded u old new → AreTermsOf (take (i + 1) us) new × EachOf IsFit new
terms_next us i u old new lt at both added = subst (λ l. AreTermsOf l new × EachOf IsFit new) (sym (take_next us i u lt at)) (terms_more (take i us) u old new both.0 both.1 added)

pub skips_next : (us : List Unit) (i : ℕ) (u : Unit) (old new : List SkipPart) → i < length us → u ≡ get_or us i u → AreSkipsOf (take i us) old × EachOf (λ (k : SkipPart). IsFit k.regex) old → IsSkipAdded u old new → AreSkipsOf (take (i + 1) us) new × EachOf (λ (k : SkipPart). IsFit k.regex) new
skips_next us i u old new lt at both added = subst (λ l. AreSkipsOf l new × EachOf (λ (k : SkipPart). IsFit k.regex) new) (sym (take_next us i u lt at)) (skips_more (take i us) u old new both.0 both.1 added)
