use Rattle.std.proofs.Common.{◌≡◌, ◌<◌, ◌∷◌, ◌++◌, [], List, ℕ, All, None, Some, length, slice_get, get_or, sym, subst, ap, arith, ◌∙◌}
use Rattle.xs_forest.specs.declared.row.Alt.{Alt}
use Rattle.xs_gram.specs.Common.{made}
use Rattle.xs_gram.specs.Grammar.{items}
use Rattle.xs_tree.proofs.Trees.{length-trees}
use Rattle.xs_tree.specs.Flat.{kids_at, trees_of}
use Rattle.xs_cover.specs.declared.pick.Pick.{Pick}
use Rattle.xs_cover.specs.declared.pick.Pick.TheVariants.{Whole}
use Rattle.xs_cover.specs.Prices.{AreKids}
use Rattle.xs_cover.proofs.Reading.{read_front, read_kids, read_whole, rule_read}
use Rattle.xs_cover.proofs.trees.Trees.read.Goals as goal

pub returns-in-Front : goal.returns-in-Front
returns-in-Front c =
    let t = c.args.tables.now in
    let s = c.args.self.now in
    let e = c.row-row.ensures ∙ ap (λ (l : Pick). Some (l, c.row-row.result.alts.now)) c.in-Front.is in
    read_front c.args.two.now.text c.args.two.now.xml t.prices.terms.items t.prices.nons.items t.forest c.requires.sound.text c.requires.tables.rows c.requires.below c.requires.once (trees_of s.builder) s.numbers.items c.args.at c.requires.read c.in-Front.rule c.in-Front.dot (c.row-row.result.alts.now, e)

pub returns-in_ok-number-in-Whole : goal.returns-in_ok-number-in-Whole
returns-in_ok-number-in-Whole c =
    let g = c.args.two.now.text in
    let t = c.args.tables.now in
    let s = c.args.self.now in
    let trees = trees_of s.builder in
    let e : slice_get t.forest c.args.at ≡ Some (Whole c.in-Whole.non, c.row-row.result.alts.now) = c.row-row.ensures ∙ ap (λ (l : Pick). Some (l, c.row-row.result.alts.now)) c.in-Whole.is in
    let is = c.requires.tables.rows.picks c.args.at (Whole c.in-Whole.non) c.row-row.result.alts.now e in
    let same = rule_read c.row-row.result.alts.now is.rule is.left None (record { rule = 0; left = None; right = None }) is.alts_are in
    let kids = c.place_kids.new.kids.items in
    let first : AreKids s.numbers.items (items g (get_or c.row-row.result.alts.now 0 (record { rule = 0; left = None; right = None })).rule) kids = rw c.deref.ensures.value at c.in_ok-place_kids-in-Whole.ensures in
    let are : AreKids s.numbers.items (items g is.rule) kids = subst (λ r. AreKids s.numbers.items (items g r) kids) same first in
    let means : trees_of c.node.new.self ≡ trees ++ made (get_or c.row-row.result.alts.now 0 (record { rule = 0; left = None; right = None })).rule (kids_at trees kids) ∷ [] = rw c.deref-in-Whole.ensures.value at c.in_ok-number-in-Whole.ensures.means in
    read_whole g c.args.two.now.xml t.prices.terms.items t.prices.nons.items t.forest c.requires.sound.text c.requires.tables.rows c.requires.below c.requires.once trees s.numbers.items c.args.at c.requires.read c.in-Whole.non c.row-row.result.alts.now e is kids are (trees_of c.node.new.self) c.in_ok-number-in-Whole.number
    (means ∙ ap (λ r. trees ++ made r (kids_at trees kids) ∷ []) same) (c.in_ok-number-in-Whole.ensures.number ∙ sym (length-trees s.builder))

pub bounds-row-0 : goal.bounds-row-0
bounds-row-0 c =
    let t = c.args.tables.now in
    let e : slice_get t.forest c.args.at ≡ Some (Whole c.in-Whole.non, c.row-row.result.alts.now) = c.row-row.ensures ∙ ap (λ (l : Pick). Some (l, c.row-row.result.alts.now)) c.in-Whole.is in
    let is = c.requires.tables.rows.picks c.args.at (Whole c.in-Whole.non) c.row-row.result.alts.now e in
    omega (arith, ap (λ (l : List Alt). length l) is.alts_are)

pub place_kids-requires-clause-rule : goal.place_kids-requires-clause-rule
place_kids-requires-clause-rule c =
    let t = c.args.tables.now in
    let e : slice_get t.forest c.args.at ≡ Some (Whole c.in-Whole.non, c.row-row.result.alts.now) = c.row-row.ensures ∙ ap (λ (l : Pick). Some (l, c.row-row.result.alts.now)) c.in-Whole.is in
    let is = c.requires.tables.rows.picks c.args.at (Whole c.in-Whole.non) c.row-row.result.alts.now e in
    subst (λ r. r < length c.args.two.now.text.rules) (sym (rule_read c.row-row.result.alts.now is.rule is.left None (record { rule = 0; left = None; right = None }) is.alts_are)) is.there

pub node-requires : goal.node-requires
node-requires c =
    let g = c.args.two.now.text in
    let t = c.args.tables.now in
    let s = c.args.self.now in
    let e : slice_get t.forest c.args.at ≡ Some (Whole c.in-Whole.non, c.row-row.result.alts.now) = c.row-row.ensures ∙ ap (λ (l : Pick). Some (l, c.row-row.result.alts.now)) c.in-Whole.is in
    let is = c.requires.tables.rows.picks c.args.at (Whole c.in-Whole.non) c.row-row.result.alts.now e in
    let kids = c.place_kids.new.kids.items in
    let first : AreKids s.numbers.items (items g (get_or c.row-row.result.alts.now 0 (record { rule = 0; left = None; right = None })).rule) kids = rw c.deref.ensures.value at c.in_ok-place_kids-in-Whole.ensures in
    let are : AreKids s.numbers.items (items g is.rule) kids = subst (λ r. AreKids s.numbers.items (items g r) kids) (rule_read c.row-row.result.alts.now is.rule is.left None (record { rule = 0; left = None; right = None }) is.alts_are) first in
    let there = read_kids g c.args.two.now.xml t.prices.terms.items t.prices.nons.items t.forest c.requires.sound.text c.requires.tables.rows c.requires.below c.requires.once (trees_of s.builder) s.numbers.items c.args.at c.requires.read c.in-Whole.non c.row-row.result.alts.now e is kids are in
    rw c.deref-in-Whole.ensures.value (subst (λ (n : ℕ). All (λ k. k < n) kids) (length-trees s.builder) there)

pub index_mut-requires : goal.index_mut-requires
index_mut-requires c =
    let t = c.args.tables.now in
    let e : slice_get t.forest c.args.at ≡ Some (Whole c.in-Whole.non, c.row-row.result.alts.now) = c.row-row.ensures ∙ ap (λ (l : Pick). Some (l, c.row-row.result.alts.now)) c.in-Whole.is in
    let is = c.requires.tables.rows.picks c.args.at (Whole c.in-Whole.non) c.row-row.result.alts.now e in
    omega (arith, c.requires.sound.text.built.range.rules is.rule is.there, is.of, c.requires.read.have.numbers_counted, c.args.self.now.numbers.ok.0)
