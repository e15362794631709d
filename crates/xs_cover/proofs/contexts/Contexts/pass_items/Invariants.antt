use Rattle.std.proofs.Common.{◌≡◌, ◌<◌, ℕ, false}
use Rattle.xs_gram.specs.declared.parts.GItem.{GItem}
use Rattle.xs_gram.specs.Grammar.{ItemAt}
use Rattle.xs_cover.specs.Steps.{AreContexts, IsPassing, IsPassedItem}
use Rattle.xs_cover.specs.Tables.{IsLowered}
use Rattle.xs_cover.proofs.contexts.Contexts.pass_items.Given as goal

abbrev pub invariant-items : goal.invariant-items
invariant-items l = record {
  contexts : AreContexts l.two.text l.two.xml l.prices l.self;
  passing : IsPassing l.two.text l.two.xml l.prices l.self.steps.items l.from;
  lowered : IsLowered l.lowered l.initial.self.arounds.items l.self.arounds.items;
  passed : l.lowered ≡ false → (n : ℕ) (item : GItem) → n < l.item-index → ItemAt l.two.text l.from.rule n item → IsPassedItem l.prices l.initial.self.arounds.items l.from item;
}
