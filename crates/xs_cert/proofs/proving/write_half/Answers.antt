use Rattle.std.proofs.Common.{◌≡◌, List, ℕ, sym, subst}
use Rattle.std.proofs.lemmas.Result.{on_ok_weaker}
use Rattle.xs_gram.specs.Grammar.{Grammar}
use Rattle.xs_gram.specs.Sound.{IsBuilt}
use Rattle.xs_check_laws.specs.Acceptance.{HasNoSuspect}
use Rattle.xs_cert.specs.Writing.{AddsHalf, IsSource}
use Rattle.xs_cert.proofs.Halves.{half_written, related_exact}
use Rattle.xs_cert.proofs.proving.write_half.Goals as goal

pub write_blocks-requires-clause-source : goal.write_blocks-requires-clause-source
write_blocks-requires-clause-source c =
    let space = c.in_ok-space.ensures.space in
    let same = c.in_ok-space.ensures.grammar in
    record {
      built = space.site.built;
      nest = space.nest;
      clear = subst (λ (g : Grammar). HasNoSuspect g) (sym same) c.requires.clear;
      exact = related_exact c.in_ok-space.space.nest c.in_ok-space.space.shared c.relate.new.related space.fenced space.shared c.in_ok-relate.ensures;
    }

pub returns : goal.returns
returns c =
    let space = c.in_ok-space.ensures.space in
    let same = c.in_ok-space.ensures.grammar in
    let g = c.in_ok-space.space.site.g.now in
    let nest = c.in_ok-space.space.nest in
    let related = c.relate.new.related in
    let source : IsSource g nest related = record {
      built = space.site.built;
      nest = space.nest;
      clear = subst (λ (h : Grammar). HasNoSuspect h) (sym same) c.requires.clear;
      exact = related_exact nest c.in_ok-space.space.shared related space.fenced space.shared c.in_ok-relate.ensures;
    } in
    on_ok_weaker c.write_blocks.result (λ blocks. subst (λ (h : Grammar). AddsHalf h c.args.writer.now.out c.write_blocks.new.self.out) same
    (half_written g nest related source c.args.writer.now.out c.write_shares.new.out c.write_blocks.new.self.out (rw c.len.ensures at c.in_ok-write_shares.ensures) blocks)) c.write_blocks.ensures
