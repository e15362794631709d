use Rattle.std.proofs.Common.{◌∙◌}
use Rattle.xs_cover.specs.Picks.{IsSetIn}
use Rattle.xs_cover.proofs.Passing.{set_in_on}
use Rattle.xs_cover.proofs.Sweeping.{up_to}
use Rattle.xs_cover.proofs.picks.Picks.begin.Goals as goal

pub rules-preserved : goal.rules-preserved
rules-preserved c =
    let g = c.args.two.now.text in
    let h = c.args.two.now.xml in
    let known = c.rules.invariant in
    let done = c.in_ok-pass.ensures in
    record {
      picks = done.picks;
      prices = done.grown.prices ∙ known.prices;
      set = λ r less. up_to (λ k. IsSetIn g h c.pass.new.self k) c.rules.rule (λ k before. set_in_on g h c.rules.self c.pass.new.self k done.grown (known.set k before)) done.set r less;
    }
