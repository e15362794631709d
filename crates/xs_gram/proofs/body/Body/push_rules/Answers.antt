use Rattle.std.proofs.Common.{◌≡◌, ◌<◌, ◌++◌, ◌∙◌, ap, subst, suc, List, length, get_or, arith}
use Rattle.xs_gram.specs.declared.parts.GItem.{GItem}
use Rattle.xs_gram.specs.declared.parts.RulePart.{RulePart}
use Rattle.xs_gram.specs.Grammar.{Grammar}
use Rattle.xs_gram.specs.Building.{EachOf, NamesAreThere, AreRowStarts}
use Rattle.xs_gram.specs.Places.{rule_places, all_places}
use Rattle.xs_gram.proofs.Building.{rules_step, rest_here, starts_step}
use Rattle.xs_gram.proofs.body.Body.push_rules.Goals as goal

pub rules-preserved : goal.rules-preserved
rules-preserved c =
    let g : Grammar = c.args.self.now in
    let r : RulePart = c.rule-item.result in
    let rules : c.deref-rule-items.result.now ≡ g.rules = c.deref-rule-items.ensures.value ∙ ap (λ (g : Grammar). g.rules) c.self.view_is in
    let lt : c.rules.number < length g.rules = omega (arith, ap length rules) in
    let at : r ≡ get_or g.rules c.rules.number r = c.rule-item.is ∙ ap (λ (l : List RulePart). get_or l c.rules.number r) rules in
    let is : c.as_slice.result.now ≡ r.items = c.as_slice.ensures in
    let more : c.push_rule.new.places.items ≡ c.rules.places.items ++ rule_places g c.rules.number 0 r.items = c.in_ok-row.ensures.places ∙ ap (λ (l : List GItem). c.rules.places.items ++ rule_places g c.rules.number 0 l) is in
    let row : AreRowStarts c.push_rule.new.places.items c.rules.number (suc (length r.items)) c.in_ok-row.row = subst (λ (l : List GItem). AreRowStarts c.push_rule.new.places.items c.rules.number (suc (length l)) c.in_ok-row.row) is c.in_ok-row.ensures.starts in
    record {
      pending = rules_step g c.rules.number g.rules r c.rules.places.items c.push_rule.new.places.items (all_places g) lt at more c.rules.invariant.pending;
      rest = (rest_here (λ r. EachOf (NamesAreThere g) r.items) g.rules c.rules.number r lt at c.rules.invariant.rest).1;
      starts = starts_step g c.rules.places.items (rule_places g c.rules.number 0 r.items) c.push_rule.new.places.items c.rules.number r c.in_ok-row.row c.rules.starts.items c.push.new.self.items lt at more c.in_ok-push.ensures.items c.rules.invariant.starts row;
    }
