use Rattle.std.proofs.Common.{◌≡◌, ℕ, List, length, sym, ap, ◌∙◌, subst}
use Rattle.xs_forest_laws.specs.declared.span.What.TheVariants.{Whole}
use Rattle.xs_forest_laws.specs.declared.span.SpanKey.{SpanKey}
use Rattle.xs_forest_laws.specs.Forest.{Forest, key_at, IsRow}
use Rattle.xs_forest_laws.specs.Grown.{IsGrown}
use Rattle.xs_forest_laws.specs.Laws.{IsForestOf}
use Rattle.xs_gram.specs.Grammar.{Grammar}
use Rattle.xs_grow.specs.Making.{stands_at, IsLabel}
use Rattle.xs_grow.proofs.Charting.{start_label}
use Rattle.xs_grow.proofs.Growing.{forest_of, exact_of}
use Rattle.xs_grow.proofs.forest.grow_found.Goals as goal

grown_of : (g : Grammar) (w : List ℕ) (f : Forest) (root start long : ℕ) → start ≡ g.start → long ≡ length w → IsGrown g w (stands_at g w) f → IsRow f root (Whole start) 0 long → IsForestOf g w f root
grown_of g w f root start long s l grown is =
    forest_of g w f root grown (subst (λ z. IsRow f root (Whole g.start) 0 z) l (subst (λ z. IsRow f root (Whole z) 0 long) s is))

pub grow_rows-requires-clause-root : goal.grow_rows-requires-clause-root
grow_rows-requires-clause-root c =
    let g = c.args.g.now in
    let w = c.args.doc.now in
    let key : key_at (Whole c.start.result) 0 c.len.result ≡ key_at (Whole g.start) 0 (length w) = ap (λ n. key_at (Whole n) 0 c.len.result) c.start.ensures ∙ ap (λ n. key_at (Whole g.start) 0 n) c.len.ensures in
    subst (λ (z : SpanKey). IsLabel g w z) (sym key) (start_label g w c.requires.in_language)

pub returns-clause-forest : goal.returns-clause-forest
returns-clause-forest c = grown_of c.args.g.now c.args.doc.now c.grow_rows.new.forest c.in_ok-root.root c.start.result c.len.result c.start.ensures c.len.ensures c.in_ok-root.ensures.grown c.in_ok-root.ensures.row

pub returns-clause-exact : goal.returns-clause-exact
returns-clause-exact c = exact_of c.args.g.now c.args.doc.now c.grow_rows.new.forest c.in_ok-root.root (returns-clause-forest c)
