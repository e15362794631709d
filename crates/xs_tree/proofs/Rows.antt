-- The parts of rows stay as they are where the lists that they stand in go on.
use Rattle.std.proofs.Common.{◌≡◌, ℕ, ◌-◌, ◌≤◌, List, [], ◌∷◌, ◌++◌, length, take, drop, slice_range, refl, sym, ◌∙◌, ap, arith}
use Rattle.std.proofs.lemmas.List.{append-nil, drop_at, drop-append-le, length-append, length-drop, map-append, take-append-le, take_all}
use Rattle.std.proofs.lemmas.List.Elements.{All-head, All-tail}
use Rattle.xs_tree.specs.declared.parts.Row.{Row}
use Rattle.xs_tree.specs.declared.parts.Row.TheVariants.{Word, Made}
use Rattle.xs_tree.specs.Flat.{TreePart, Leaf, Node}
use Rattle.xs_tree.specs.Rows.{row_part, row_parts, AreWithin, IsWithin}

-- a stretch of a list that goes on
pub slice_append : (all more : List ℕ) (begin end : ℕ) → begin ≤ end → end ≤ length all → slice_range (all ++ more) begin end ≡ slice_range all begin end
slice_append all more begin end le within =
    let short : end - begin ≤ length (drop begin all) = rw length-drop (omega arith) in
    ap (take (end - begin)) (drop-append-le begin all more (omega arith)) ∙ take-append-le (end - begin) (drop begin all) more short

-- the stretch that was appended
slice_last : (all all' more : List ℕ) (begin end : ℕ) → all' ≡ all ++ more → begin ≡ length all → end ≡ length all' → slice_range all' begin end ≡ more
slice_last all all' more begin end grown first last =
    let long : length more ≤ end - begin = omega (arith, first, last, ap length grown ∙ length-append all more) in
    ap (λ l. take (end - begin) (drop begin l)) grown ∙ ap (take (end - begin)) (drop_at all more begin (sym first)) ∙ take_all (end - begin) more long

row_stays : (kids symbols more extra : List ℕ) (row : Row) → IsWithin (length kids) (length symbols) row → row_part (kids ++ more) (symbols ++ extra) row ≡ row_part kids symbols row
row_stays kids symbols more extra (Word begin end) within = ap Leaf (slice_append symbols extra begin end within.0 within.1)
row_stays kids symbols more extra (Made production begin end) within = ap (Node production) (slice_append kids more begin end within.0 within.1)

rows_stay : (kids symbols more extra : List ℕ) (rows : List Row) → AreWithin kids symbols rows → row_parts (kids ++ more) (symbols ++ extra) rows ≡ row_parts kids symbols rows
rows_stay kids symbols more extra [] within = refl
rows_stay kids symbols more extra (row ∷ rows) within =
    let P : Row → Type 0 = IsWithin (length kids) (length symbols) in
    ap (λ part. part ∷ row_parts (kids ++ more) (symbols ++ extra) rows) (row_stays kids symbols more extra row (All-head P row rows within))
    ∙ ap (λ parts. row_part kids symbols row ∷ parts) (rows_stay kids symbols more extra rows (All-tail P row rows within))

-- a new last row, where the lists go on
row_pushed : (kids symbols more extra : List ℕ) (rows : List Row) (row : Row) (part : TreePart) → AreWithin kids symbols rows → row_part (kids ++ more) (symbols ++ extra) row ≡ part → row_parts (kids ++ more) (symbols ++ extra) (rows ++ row ∷ []) ≡ row_parts kids symbols rows ++ part ∷ []
row_pushed kids symbols more extra rows row part within is =
    map-append (row_part (kids ++ more) (symbols ++ extra)) rows (row ∷ [])
    ∙ ap (λ p. row_parts (kids ++ more) (symbols ++ extra) rows ++ p ∷ []) is
    ∙ ap (λ parts. parts ++ part ∷ []) (rows_stay kids symbols more extra rows within)

-- a new last leaf
pub leaf_pushed : (kids symbols symbols' word : List ℕ) (rows rows' : List Row) (begin end : ℕ) → AreWithin kids symbols rows → symbols' ≡ symbols ++ word → begin ≡ length symbols → end ≡ length symbols' → rows' ≡ rows ++ Word begin end ∷ [] → row_parts kids symbols' rows' ≡ row_parts kids symbols rows ++ Leaf word ∷ []
leaf_pushed kids symbols symbols' word rows rows' begin end within grown first last pushed =
    let part = ap Leaf (slice_last symbols symbols' word begin end grown first last) in
    rw (pushed, grown) (ap (λ ks. row_parts ks (symbols ++ word) (rows ++ Word begin end ∷ [])) (sym (append-nil kids)) ∙ row_pushed kids symbols [] word rows (Word begin end) (Leaf word) within (rw (← grown) part))

-- a new last node
pub node_pushed : (kids kids' symbols more : List ℕ) (rows rows' : List Row) (production begin end : ℕ) → AreWithin kids symbols rows → kids' ≡ kids ++ more → begin ≡ length kids → end ≡ length kids' → rows' ≡ rows ++ Made production begin end ∷ [] → row_parts kids' symbols rows' ≡ row_parts kids symbols rows ++ Node production more ∷ []
node_pushed kids kids' symbols more rows rows' production begin end within grown first last pushed =
    let part = ap (Node production) (slice_last kids kids' more begin end grown first last) in
    rw (pushed, grown) (ap (λ ss. row_parts (kids ++ more) ss (rows ++ Made production begin end ∷ [])) (sym (append-nil symbols)) ∙ row_pushed kids symbols more [] rows (Made production begin end) (Node production more) within (rw (← grown) part))
