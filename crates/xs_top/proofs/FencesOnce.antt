-- No symbol stands twice in the fences of a grammar of a sheet, so that a rule has one weight.
use Rattle.std.proofs.Common.{inl, inr, ℕ, List, length, sym, subst}
use Rattle.xs_gram.specs.Fences.{fence_symbols}
use Rattle.xs_gram.specs.Laws.{IsDistinct}
use Rattle.xs_class.specs.declared.side.Side.TheVariants.{Text, Xml}
use Rattle.xs_sheet.specs.declared.sheet.Sheet.{Sheet}
use Rattle.xs_pair.specs.declared.ill.IllRule.TheVariants as L
use Rattle.xs_pair.specs.Fences.{AreFences}
use Rattle.xs_pair.specs.Grammars.{Pair}
use Rattle.xs_pair.proofs.Apart.{pairs_once}
use Rattle.xs_pair.proofs.XmlFences.{marks_once}
use Rattle.xs_top.specs.Sheets.{IsPairOfBytes}

text_once : (s : Sheet) (names : List (List ℕ)) (fs : List (ℕ × ℕ)) → AreFences s names Text fs → IsDistinct (fence_symbols fs)
text_once s names fs (inl (none, e)) = subst (λ (z : List (ℕ × ℕ)). IsDistinct (fence_symbols z)) (sym e) (pairs_once s.units (λ line fails. none L.FenceChar line fails))
text_once s names fs (inr (some, e)) = subst (λ (z : List (ℕ × ℕ)). IsDistinct (fence_symbols z)) (sym e) tt

xml_once : (s : Sheet) (names : List (List ℕ)) (fs : List (ℕ × ℕ)) → AreFences s names Xml fs → IsDistinct (fence_symbols fs)
xml_once s names fs (inl (second, e)) = subst (λ (z : List (ℕ × ℕ)). IsDistinct (fence_symbols z)) (sym e) (marks_once 0 (length names))
xml_once s names fs (inr (first, e)) = subst (λ (z : List (ℕ × ℕ)). IsDistinct (fence_symbols z)) (sym e) tt

pub once_in_text : (bytes : List ℕ) (p : Pair) → IsPairOfBytes bytes p → IsDistinct (fence_symbols p.text.fences)
once_in_text bytes p is = text_once is.sheet p.names p.text.fences is.pair.text.fences

pub once_in_xml : (bytes : List ℕ) (p : Pair) → IsPairOfBytes bytes p → IsDistinct (fence_symbols p.xml.fences)
once_in_xml bytes p is = xml_once is.sheet p.names p.xml.fences is.pair.xml.fences
