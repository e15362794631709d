use Rattle.std.proofs.Common.{◌≡◌, ◌∙◌, ap, length, arith}
use Rattle.xs_auto.specs.Grouping.{grouped}
use Rattle.xs_auto.proofs.LayoutLemmas.{laid_out, finished}
use Rattle.xs_auto.proofs.net.draft.Draft.finish.Goals as goal

pub invariant_of-result : goal.invariant_of-result
invariant_of-result c =
    let n : c.len-states.result ≡ length c.self.inside.finals.items = omega (arith, c.len-states.ensures) in
    let e : c.in_ok-edges.edges ≡ grouped (length c.self.inside.finals.items) c.self.inside.edges.items = c.in_ok-edges.ensures ∙ ap (λ k. grouped k c.deref.result.now) n ∙ ap (grouped (length c.self.inside.finals.items)) c.deref.ensures.value in
    let f : c.in_ok-moves.moves ≡ grouped (length c.self.inside.finals.items) c.self.inside.moves.items = c.in_ok-moves.ensures ∙ ap (λ k. grouped k c.deref-2.result.now) n ∙ ap (grouped (length c.self.inside.finals.items)) c.deref-2.ensures.value in
    let h : c.in_ok-calls.calls ≡ grouped (length c.self.inside.finals.items) c.self.inside.calls.items = c.in_ok-calls.ensures ∙ ap (λ k. grouped k c.deref-3.result.now) n ∙ ap (grouped (length c.self.inside.finals.items)) c.deref-3.ensures.value in
    rw (e, f, h) (laid_out c.self.inside.start c.self.inside.finals.items c.self.inside.entered.items c.self.inside.classes.items c.self.inside.edges.items c.self.inside.moves.items c.self.inside.calls.items c.self.invariant)

pub returns : goal.returns
returns c =
    let n : c.len-states.result ≡ length c.self.inside.finals.items = omega (arith, c.len-states.ensures) in
    let e : c.in_ok-edges.edges ≡ grouped (length c.self.inside.finals.items) c.self.inside.edges.items = c.in_ok-edges.ensures ∙ ap (λ k. grouped k c.deref.result.now) n ∙ ap (grouped (length c.self.inside.finals.items)) c.deref.ensures.value in
    let f : c.in_ok-moves.moves ≡ grouped (length c.self.inside.finals.items) c.self.inside.moves.items = c.in_ok-moves.ensures ∙ ap (λ k. grouped k c.deref-2.result.now) n ∙ ap (grouped (length c.self.inside.finals.items)) c.deref-2.ensures.value in
    let h : c.in_ok-calls.calls ≡ grouped (length c.self.inside.finals.items) c.self.inside.calls.items = c.in_ok-calls.ensures ∙ ap (λ k. grouped k c.deref-3.result.now) n ∙ ap (grouped (length c.self.inside.finals.items)) c.deref-3.ensures.value in
    finished c.self.inside.start c.self.inside.finals.items c.self.inside.classes.items c.self.inside.edges.items c.self.inside.moves.items c.self.inside.calls.items c.in_ok-edges.edges c.in_ok-moves.moves c.in_ok-calls.calls c.args.self e f h c.self.view_is
