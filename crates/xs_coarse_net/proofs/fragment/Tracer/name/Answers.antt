use Rattle.std.proofs.Common.{◌≡◌, suc, ◌∷◌, [], length, set, ap, refl, arith, length-append}
use Rattle.std.specs.Vec.{with_item}
use Rattle.std.proofs.lemmas.List.{get_or_read}
use Rattle.xs_coarse_net.specs.declared.fragment.Tracer.{Tracer}
use Rattle.xs_coarse_net.proofs.Tracing.{reached_more}
use Rattle.xs_coarse_net.proofs.fragment.Tracer.name.Goals as goal

pub returns-clause-reaches : goal.returns-clause-reaches
returns-clause-reaches c =
    let old : Tracer = c.args.self.now in
    let new : Tracer = record { names = with_item old.names c.args.state c.len-name.result; order = c.push.new.self; arcs = old.arcs } in
    let next : c.len-name.result ≡ suc (length old.order.items) = omega (arith, c.len-name.ensures, ap length c.in_ok-push.ensures.items, length-append old.order.items (c.args.state ∷ [])) in
    reached_more old new c.args.state c.requires (omega (arith, get_or_read old.names.items c.args.state c.index-name.result.now c.requires c.index-name.ensures 0, c.if-name-ne0.false)) (ap (λ n. set old.names.items c.args.state n) next) c.in_ok-push.ensures.items refl
