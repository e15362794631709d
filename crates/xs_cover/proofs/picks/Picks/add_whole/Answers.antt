use Rattle.std.proofs.Common.{◌≡◌, ◌⊎◌, ◌+◌, ◌-◌, ℕ, None, length, set, sym, subst, ap, arith, ◌∙◌}
use Rattle.std.specs.BinaryHeap.{heap_items}
use Rattle.xs_forest.specs.declared.row.Alt.{Alt}
use Rattle.xs_gram.specs.Grammar.{Grammar, rule_of, items}
use Rattle.xs_cover.specs.declared.pick.Pick.TheVariants.{Whole}
use Rattle.xs_cover.specs.Picks.{Holds, IsAdded, IsLeft, IsSet, WaitsFor}
use Rattle.xs_cover.proofs.Making.{holds_whole, set_whole}
use Rattle.xs_cover.proofs.picks.Picks.add_whole.Goals as goal

pub returns-clause-picks : goal.returns-clause-picks
returns-clause-picks c =
    let s = c.args.self.now in
    let g = c.args.two.now.text in
    let h = c.args.two.now.xml in
    let rule = c.args.rule in
    let cost = 1000000000 - c.args.left in
    let entry = c.requires.first.entry in
    let sum : cost + c.args.left ≡ 1000000000 = omega (arith, entry.cost) in
    let non : (rule_of g rule).non ≡ c.non_of-non.result = sym (c.non_of-non.ensures ∙ ap (λ (k : Grammar). (rule_of k rule).non) c.gram-g.ensures) in
    let long : length c.items.result.now ≡ length (items g rule) = ap length (c.items.ensures.items ∙ ap (λ (k : Grammar). items k rule) c.gram-g.ensures) in
    let is_left : IsLeft s.forest rule (length (items g rule)) c.front_row.result = subst (λ (n : ℕ). IsLeft s.forest rule n c.front_row.result) long c.front_row.ensures in
    let alt : Alt = record { rule = rule; left = c.front_row.result; right = None } in
    subst (λ (n : ℕ). IsAdded s.forest (Whole n) alt c.add.new.forest → Holds g h s.prices.terms.items (set s.prices.nons.items n cost) c.add.new.forest s.waiting.items (heap_items s.ready)) non
    (λ added. holds_whole g h s.prices.terms.items s.prices.nons.items s.forest s.waiting.items (heap_items s.ready) c.requires.sound.text c.requires.picks c.args.left rule cost entry sum c.requires.dearer c.add.new.forest c.front_row.result is_left added c.requires.first.greatest)
    c.in_ok-add.ensures

pub returns-clause-set : goal.returns-clause-set
returns-clause-set c = λ r there.
    let s = c.args.self.now in
    let g = c.args.two.now.text in
    let h = c.args.two.now.xml in
    let rule = c.args.rule in
    let cost = 1000000000 - c.args.left in
    let entry = c.requires.first.entry in
    let sum : cost + c.args.left ≡ 1000000000 = omega (arith, entry.cost) in
    let non : (rule_of g rule).non ≡ c.non_of-non.result = sym (c.non_of-non.ensures ∙ ap (λ (k : Grammar). (rule_of k rule).non) c.gram-g.ensures) in
    subst (λ (n : ℕ). IsSet g h s.prices.terms.items (set s.prices.nons.items n cost) s.waiting.items (heap_items s.ready) r ⊎ WaitsFor s.waiting.items (rule_of g rule).non 0 r) non
    (set_whole g h s.prices.terms.items s.prices.nons.items s.forest s.waiting.items (heap_items s.ready) c.requires.sound.text c.requires.picks c.args.left rule cost entry sum c.requires.dearer r (c.requires.set r there))
