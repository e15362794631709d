use Rattle.std.proofs.Common.{◌≡◌, ◌+◌, ◌<◌, ◌≤◌, ℕ, Some, List, length, sym, ◌∙◌, ap, arith}
use Rattle.std.specs.Prelude.{slice_get}
use Rattle.xs_gram.specs.Grammar.{Grammar}
use Rattle.xs_forest.specs.declared.row.Alt.{Alt}
use Rattle.xs_forest.specs.Rows.{IsEarlier}
use Rattle.xs_forest_laws.specs.declared.span.SpanKey.{SpanKey}
use Rattle.xs_forest_laws.specs.Forest.{Forest, key_of, alts_of, IsRight}
use Rattle.xs_listing.proofs.Children.{children_earlier}
use Rattle.xs_tree.specs.Counts.{capped}
use Rattle.xs_listing.specs.Sizes.{size_at, last_count, IsSize, AreSizes}
use Rattle.xs_listing.proofs.Sizing.{dots_within}
use Rattle.xs_listing.proofs.Sized.{row_size}
use Rattle.xs_listing.proofs.sizes.row_size.Goals as goal

-- the first alternative is the row's, and its children stand below any number from the row's on
first_earlier : (g : Grammar) (w : List ℕ) (f : Forest) → IsRight g w f → (r n : ℕ) (alts : List Alt) (a : Alt) → alts ≡ alts_of f r → Some a ≡ slice_get alts 0 → r < length f → r ≤ n → (slice_get (alts_of f r) 0 ≡ Some a) × IsEarlier a.left n × IsEarlier a.right n
first_earlier g w f right r n alts a same at there le =
    let first : slice_get (alts_of f r) 0 ≡ Some a = ap (λ (l : List Alt). slice_get l 0) (sym same) ∙ sym at in
    let earlier = children_earlier g w f right r 0 n a there le first in
    (first, earlier.0, earlier.1)

pub child_size-left-requires : goal.child_size-left-requires
child_size-left-requires c =
    (first_earlier c.args.g.now c.args.doc.now c.args.forest.now c.requires.right c.args.row (length c.args.sizes.now) _ c.in-Some.alt.now c.alts_at.ensures c.in-Some.ensures.value c.requires.there c.requires.before).1

pub last_size-last-requires-clause-right : goal.last_size-last-requires-clause-right
last_size-last-requires-clause-right c =
    (first_earlier c.args.g.now c.args.doc.now c.args.forest.now c.requires.right c.args.row (length c.args.sizes.now) _ c.in-Some.alt.now c.alts_at.ensures c.in-Some.ensures.value c.requires.there c.requires.before).2

pub last_size-last-requires-clause-dotted : goal.last_size-last-requires-clause-dotted
last_size-last-requires-clause-dotted c p d e =
    dots_within c.args.g.now c.args.doc.now c.args.forest.now c.requires.right c.args.row c.requires.there p d (ap (λ (k : SpanKey). k.what) (sym c.label_at.ensures) ∙ e)

-- the row's size is that of the left child and what comes after it
row_sized : (g : Grammar) (w : List ℕ) (f : Forest) → IsRight g w f → (r : ℕ) (sizes : List ℕ) → AreSizes g w f sizes → r < length f → r ≤ length sizes → (alts : List Alt) (a : Alt) → alts ≡ alts_of f r → Some a ≡ slice_get alts 0 → (left last size : ℕ) (key : SpanKey) → key ≡ key_of f r → left ≡ size_at sizes a.left → last ≡ last_count g sizes key.what a → size ≡ capped (left + last) → IsSize g w f r size
row_sized g w f right r sizes are there le alts a same at left last size key key_is left_is last_is size_is =
    let e = first_earlier g w f right r (length sizes) alts a same at there le in
    rw (size_is, left_is, last_is, key_is) (row_size g w f right sizes are r a e.1 e.2 e.0)

pub returns-in-Some : goal.returns-in-Some
returns-in-Some c = row_sized c.args.g.now c.args.doc.now c.args.forest.now c.requires.right c.args.row c.args.sizes.now c.requires.sizes c.requires.there c.requires.before _ c.in-Some.alt.now c.alts_at.ensures c.in-Some.ensures.value c.child_size-left.result c.last_size-last.result c.saturating_add.result c.label_at.result c.label_at.ensures c.child_size-left.ensures c.last_size-last.ensures (omega arith)
