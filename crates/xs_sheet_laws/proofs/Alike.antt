-- Grammars that are alike mean the same.
use Rattle.std.proofs.Common.{ℕ, List, length, take, sym, subst, ap}
use Rattle.xs_gram.specs.declared.parts.RulePart.{RulePart}
use Rattle.xs_gram.specs.declared.parts.Terminal.{Terminal}
use Rattle.xs_gram.specs.declared.parts.Ignorable.{Ignorable}
use Rattle.xs_gram.specs.Grammar.{Grammar}
use Rattle.xs_gram.specs.Languages.{IsUnique, IsFront, IsViable}
use Rattle.xs_sheet_laws.specs.Regexes as R
use Rattle.xs_sheet_laws.specs.Grammars.{AreAlike}
use Rattle.xs_sheet_laws.specs.Meanings.{MeanTheSame, AlikeMeanTheSame, AlikeAreCheckedAlike}
use Rattle.xs_sheet_laws.proofs.Other.{with_parts, is_with_parts}
use Rattle.xs_sheet_laws.proofs.Kept as K
use Rattle.xs_sheet_laws.proofs.Kept.{KeepsWords}
use Rattle.xs_sheet_laws.proofs.LooseKept as L
use Rattle.xs_sheet_laws.proofs.Weighed as W
use Rattle.xs_sheet_laws.proofs.Weighed.{KeepsSizes}
use Rattle.xs_sheet_laws.proofs.Checked as C

pub regex_back : {r q : _} → R.AreAlike r q → R.AreAlike q r
regex_back a = record { size = sym a.size; form = sym a.form; classes = sym a.classes; words = λ w. ((a.words w).1, (a.words w).0) }

pub alike_back : (g h : Grammar) → AreAlike g h → AreAlike h g
alike_back g h a = record {
  start = sym a.start;
  nons = sym a.nons;
  rules = sym a.rules;
  fences = sym a.fences;
  terms = sym a.terms;
  skips = sym a.skips;
  term_regexes = λ t. regex_back (a.term_regexes t);
  skip_regexes = λ k. regex_back (a.skip_regexes k);
  normals = λ k. sym (a.normals k);
}

words_of : (g h : Grammar) → AreAlike g h → KeepsWords g h
words_of g h a = record { terms = λ t w. ((a.term_regexes t).words w).0; skips = λ k w. ((a.skip_regexes k).words w).0 }

sizes_of : (g h : Grammar) → AreAlike g h → KeepsSizes g h
sizes_of g h a = record { terms = λ t. (a.term_regexes t).size; skips = λ k. (a.skip_regexes k).size }

viable : (g h : Grammar) → ((u : List ℕ) → IsFront g u → IsFront h u) → ((u : List ℕ) → IsFront h u → IsFront g u) → (w : List ℕ) (k : ℕ) → IsViable g w k → IsViable h w k
viable g h to back w k (le, front, greatest) = (le, to (take k w) front, λ m lt f. greatest m lt (back (take m w) f))

same_with : (g : Grammar) (ts : List Terminal) (ks : List Ignorable) → AreAlike g (with_parts g ts ks) → MeanTheSame g (with_parts g ts ks)
same_with g ts ks alike =
    let h : Grammar = with_parts g ts ks in
    let back : AreAlike h g = alike_back g h alike in
    let to : KeepsWords g h = words_of g h alike in
    let from : KeepsWords h g = words_of h g back in
    let sizes : KeepsSizes g h = sizes_of g h alike in
    let sizes_back : KeepsSizes h g = sizes_of h g back in record {
      derivations = record {
        fits = λ non d. (K.fits g ts ks to non d, K.fits h g.terms g.skips from non d);
        derives = λ w d. (K.derives g ts ks to w d, K.derives h g.terms g.skips from w d);
        normal = λ d. K.normal_same g ts ks alike.normals d;
        unique = (
          λ (one : IsUnique g) w d e a b. one w d e (K.derives h g.terms g.skips from w d a) (K.derives h g.terms g.skips from w e b),
          λ (one : IsUnique h) w d e a b. one w d e (K.derives g ts ks to w d a) (K.derives g ts ks to w e b),
        );
      };
      trees = record {
        fits = λ non t. (K.tree_fits g ts ks to non t, K.tree_fits h g.terms g.skips from non t);
        strip = λ d. K.strip_same g ts ks d;
        has = λ w t. (K.has_tree g ts ks to w t, K.has_tree h g.terms g.skips from w t);
        print = λ t. K.print_same g ts ks alike.normals t;
      };
      words = record {
        in_lang = λ w. (K.in_lang g ts ks to w, K.in_lang h g.terms g.skips from w);
        viable = λ w k. (
          viable g h (K.front g ts ks to) (K.front h g.terms g.skips from) w k,
          viable h g (K.front h g.terms g.skips from) (K.front g ts ks to) w k,
        );
      };
      suspects = record {
        weighs = λ p w. (W.weighs g ts ks sizes p w, W.weighs h g.terms g.skips sizes_back p w);
        vertical = λ p q w. (L.vertical g ts ks to p q w, L.vertical h g.terms g.skips from p q w);
        horizontal = λ p c x a y. (L.horizontal g ts ks to p c x a y, L.horizontal h g.terms g.skips from p c x a y);
      };
    }

pub mean_the_same : AlikeMeanTheSame
mean_the_same g h alike =
    let is = is_with_parts g h alike.start alike.nons alike.rules alike.fences in
    subst (λ (z : Grammar). MeanTheSame g z) is (same_with g h.terms h.skips (subst (λ (z : Grammar). AreAlike g z) (sym is) alike))

sees : (g h : Grammar) → AreAlike g h → C.SeesTheSame g h
sees g h alike = record { count = ap (λ (rs : List RulePart). length rs) alike.rules; same = (mean_the_same g h alike).suspects }

pub checked_alike : AlikeAreCheckedAlike
checked_alike g h g' h' text xml =
    let one = sees g g' text in
    let two = sees h h' xml in
    let one_back = sees g' g (alike_back g g' text) in
    let two_back = sees h' h (alike_back h h' xml) in record {
      accepted = (C.accepted g h g' h' one two, C.accepted g' h' g h one_back two_back);
      heavy = λ w. (C.heavy g h g' h' one two w, C.heavy g' h' g h one_back two_back w);
      shows = λ suspect. (C.shows g h g' h' one two suspect, C.shows g' h' g h one_back two_back suspect);
    }
