use Rattle.std.proofs.Common.{◌≡◌, ◌<◌, ◌∙◌, ℕ, List, [], length, get_or, sym, subst}
use Rattle.std.specs.Prelude.{Contains}
use Rattle.std.proofs.lemmas.List.{get_or_default}
use Rattle.xs_chart.specs.Different.{AreDifferent}
use Rattle.xs_earley.proofs.facts.Facts.starts.Goals as goal

pub returns-clause-is : goal.returns-clause-is
returns-clause-is c state =
    let rows = c.args.self.now.starts.items in
    let non = c.args.non in
    let within : non < length rows = subst (λ n. non < n) (sym c.requires.facts.starts.counted) c.requires.non in
    let is : c.as_slice.result.now ≡ get_or rows non [] = c.as_slice.ensures ∙ c.index.ensures ∙ get_or_default rows non c.index.result.now [] within in
    let iff = c.requires.facts.starts.exact non state c.requires.non in (
      (λ h. (iff.0 (subst (λ (l : List ℕ). Contains l state) is h)).0),
      (λ start. subst (λ (l : List ℕ). Contains l state) (sym is) (iff.1 (start, start.1.0))),
    )

pub returns-clause-different : goal.returns-clause-different
returns-clause-different c =
    let rows = c.args.self.now.starts.items in
    let non = c.args.non in
    let within : non < length rows = subst (λ n. non < n) (sym c.requires.facts.starts.counted) c.requires.non in
    let is : c.as_slice.result.now ≡ get_or rows non [] = c.as_slice.ensures ∙ c.index.ensures ∙ get_or_default rows non c.index.result.now [] within in
    subst (λ (l : List ℕ). AreDifferent l) (sym is) (c.requires.facts.starts.different non)
