use Rattle.std.proofs.Common.{◌≡◌, ◌<◌, ◌∷◌, [], ℕ, List, length, sym, subst, ap, arith, Some, ◌∙◌, slice_get, get_or}
use Rattle.std.proofs.lemmas.List.{drop_all}
use Rattle.xs_gram.specs.declared.parts.GItem.{GItem}
use Rattle.xs_gram.specs.declared.parts.GItem.TheVariants.{Term, Non}
use Rattle.xs_gram.specs.Grammar.{Grammar, items, slots}
use Rattle.xs_gram.specs.Laws.{Every, IsNumbered, HasNumberedSlots}
use Rattle.xs_cover.specs.Prices.{AreKids, placed}
use Rattle.xs_cover.specs.Tables.{at}
use Rattle.xs_cover.proofs.Counting.{item_read, item_slots}
use Rattle.xs_cover.proofs.Showing.{placed_long, placed_each}
use Rattle.xs_cover.proofs.trees.place_kids.Goals as goal

-- the slots of an item that is read are below the number of kids
slots_below : (g : Grammar) (rule n : ℕ) (is : List GItem) (i item : GItem) (kids : List ℕ) → HasNumberedSlots g → is ≡ items g rule → n < length is → i ≡ get_or is n i → i ≡ item → length kids ≡ length (slots is) → Every (λ s. s < length kids) (slots (item ∷ []))
slots_below g rule n is i item kids numbered e lt read item_is long =
    let there : slice_get (items g rule) n ≡ Some item = item_read g rule n is i e lt read ∙ ap (λ j. Some j) item_is in
    let same : length kids ≡ length (slots (items g rule)) = long ∙ ap (λ (l : List GItem). length (slots l)) e in
    item_slots (λ s. s < length kids) (items g rule) n item (subst (λ k. Every (λ s. s < k) (slots (items g rule))) (sym same) (numbered rule).below) there

pub index_mut-requires : goal.index_mut-requires
index_mut-requires c = omega (arith, (slots_below c.args.two.now.text c.args.rule c.items.item-index c.items-items.result.now c.item-item.result (Term c.in-Term.term c.in-Term.slot) c.items.kids.items c.requires.sound.text.built.slots (c.items-items.ensures.items ∙ ap (λ (k : Grammar). items k c.args.rule) c.gram.ensures) c.items-test.true c.item-item.is c.in-Term.is c.items.invariant.long).0, c.items.kids.ok)

pub bounds-numbers-non : goal.bounds-numbers-non
bounds-numbers-non c =
    let item = item_read c.args.two.now.text c.args.rule c.items.item-index c.items-items.result.now c.item-item.result (c.items-items.ensures.items ∙ ap (λ (k : Grammar). items k c.args.rule) c.gram.ensures) c.items-test.true c.item-item.is ∙ ap (λ i. Some i) c.in-Non.is in
    omega (arith, c.requires.sound.text.built.range.nons c.args.rule c.items.item-index c.in-Non.non c.in-Non.slot item, c.requires.numbers)

pub index_mut-requires-in-Non : goal.index_mut-requires-in-Non
index_mut-requires-in-Non c = omega (arith, (slots_below c.args.two.now.text c.args.rule c.items.item-index c.items-items.result.now c.item-item.result (Non c.in-Non.non c.in-Non.slot) c.items.kids.items c.requires.sound.text.built.slots (c.items-items.ensures.items ∙ ap (λ (k : Grammar). items k c.args.rule) c.gram.ensures) c.items-test.true c.item-item.is c.in-Non.is c.items.invariant.long).0, c.items.kids.ok)

pub returns : goal.returns
returns c =
    let numbers = c.args.numbers.now in
    let is = c.items-items.result.now in
    let known = c.items.invariant in
    let kids = c.items.kids.items in
    let first = c.resize.new.self.items in
    let items_are : is ≡ items c.args.two.now.text c.args.rule = c.items-items.ensures.items ∙ ap (λ (k : Grammar). items k c.args.rule) c.gram.ensures in
    let kids_are : kids ≡ placed numbers first is = sym (ap (placed numbers kids) (drop_all c.items.item-index is (omega arith))) ∙ known.so_far in
    let long : length (slots is) ≡ length first = sym known.long ∙ ap length kids_are ∙ placed_long numbers first is in
    let numbered : IsNumbered (slots is) = subst (λ (l : List GItem). IsNumbered (slots l)) (sym items_are) (c.requires.sound.text.built.slots c.args.rule) in
    subst (λ (l : List GItem). AreKids numbers l kids) items_are (record {
      counted = known.long;
      each = λ s kind found. ap (λ (l : List ℕ). at l s) kids_are ∙ placed_each numbers first is s kind numbered.once (subst (λ (n : ℕ). Every (λ m. m < n) (slots is)) long numbered.below) found;
    })
