use Rattle.std.proofs.Common.{ℕ, [], ◌∷◌, ◌++◌, List, inl, inr, ◌∙◌, ap}
use Rattle.xs_auto.specs.Edges.{Edge}
use Rattle.xs_auto.specs.Nets.{Graph, edges_of}
use Rattle.xs_test_tools.proofs.RunLemmas.{one_reads}
use Rattle.xs_test_tools.proofs.nets.run_of.Goals as goal

pub returns-clause-reads : goal.returns-clause-reads
returns-clause-reads c =
    let before = λ (i : ℕ). c.in_ok-last.ensures.ok.edges i ∙ c.in_ok-first.ensures.ok.edges i ∙ ap (λ (g : Graph). edges_of g i) c.in_ok-net.ensures in
    let after = λ (i : ℕ). ap (λ (g : Graph). edges_of g i) c.in_ok-made.ensures ∙ c.in_ok-set_final.ensures.ok.edges i ∙ ap (λ (g : Graph). edges_of g i) c.set_start.ensures ∙ c.in_ok-pass.ensures.ok.edges i in
    let edge : Edge = record { class = c.in_ok-class.class; to = c.in_ok-last.last } in
    one_reads c.args.range.0 c.in_ok-made.made c.in_ok-first.first edge
    (after c.in_ok-first.first ∙ c.in_ok-edge.ensures.ok.edges ∙ ap (λ (l : List Edge). l ++ edge ∷ []) (before c.in_ok-first.first))
    (λ i other. after i ∙ c.in_ok-edge.ensures.ok.others i other ∙ before i)
    (λ s has. elim (((c.in_ok-class.ensures s)).0 has) [ inl h ↦ h.0 | inr none ↦ absurd none ])
