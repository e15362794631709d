-- A grammar with other terminals and ignorables: what is kept where each word is.
use Rattle.std.proofs.Common.{◌≡◌, ◌∙◌, ℕ, List, ap}
use Rattle.xs_gram.specs.declared.parts.RulePart.{RulePart}
use Rattle.xs_gram.specs.declared.parts.Terminal.{Terminal}
use Rattle.xs_gram.specs.declared.parts.Ignorable.{Ignorable}
use Rattle.xs_gram.specs.Grammar.{Grammar}

-- the grammar with these terminals and ignorables in place of its own
abbrev pub with_parts : Grammar → List Terminal → List Ignorable → Grammar
with_parts g terms skips = record { start = g.start; nons = g.nons; rules = g.rules; terms = terms; skips = skips; fences = g.fences }

-- a grammar with the same rules and fences is the first with the terminals and ignorables of the second
pub is_with_parts : (g h : Grammar) → g.start ≡ h.start → g.nons ≡ h.nons → g.rules ≡ h.rules → g.fences ≡ h.fences → with_parts g h.terms h.skips ≡ h
is_with_parts g h start nons rules fences =
    ap (λ (n : ℕ). let x : Grammar = record { start = n; nons = g.nons; rules = g.rules; terms = h.terms; skips = h.skips; fences = g.fences } in x) start ∙ ap (λ (n : ℕ). let x : Grammar = record { start = h.start; nons = n; rules = g.rules; terms = h.terms; skips = h.skips; fences = g.fences } in x) nons ∙ ap (λ (rs : List RulePart). let x : Grammar = record { start = h.start; nons = h.nons; rules = rs; terms = h.terms; skips = h.skips; fences = g.fences } in x) rules ∙ ap (λ (fs : List (ℕ × ℕ)). let x : Grammar = record { start = h.start; nons = h.nons; rules = h.rules; terms = h.terms; skips = h.skips; fences = fs } in x) fences
