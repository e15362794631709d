-- What is still to be printed as a walk goes on, and that it ends.
use Rattle.std.proofs.Common.{◌≡◌, Bool, true, false, ℕ, zero, suc, ◌+◌, ◌*◌, ◌^◌, ◌<◌, ◌≤◌, ◌⊎◌, inl, inr, List, [], ◌∷◌, ◌++◌, length, take, drop, get_or, Option, None, Some, slice_get, refl, sym, ◌∙◌, ap, subst, add-one, drop-cons, append_assoc, length-append, arith}
use Rattle.std.proofs.lemmas.List.{append-nil, drop_all, length-drop, length-take}
use Rattle.std.proofs.lemmas.Option.{get_or_from_slice_get, slice_get-get_or, slice_get_within}
use Rattle.std.proofs.Math.Nat.{mul-le-mul_right, mul-lt-mul_of_pos_right, one-le-pow, pow-le-pow_right, pow-succ'}
use Rattle.xs_class.proofs.Lists.{get_taken}
use Rattle.xs_gram.specs.declared.parts.GItem.{GItem}
use Rattle.xs_gram.specs.Grammar.{Grammar}
use Rattle.xs_gram.specs.Common.{Common, print, spelling}
use Rattle.xs_tree.specs.Flat.{Leaf, Flat, IsFlat, common_at, common_of, production_of, trees_of, word_of}
use Rattle.xs_tree.specs.Counts.{capped}
use Rattle.xs_text_out.specs.declared.pieces.Piece.{Piece}
use Rattle.xs_text_out.specs.declared.pieces.Pieces.{Pieces}
use Rattle.xs_text_out.specs.declared.pieces.Row.{Row}
use Rattle.xs_text_out.specs.declared.walk.Entry.{Entry}
use Rattle.xs_text_out.specs.declared.walk.Task.{Task}
use Rattle.xs_text_out.specs.Pieces.{ArePieces, piece_word, pieces_word}
use Rattle.xs_text_out.specs.Printed.{AreLengths, kid_word, rule_items, slot_word}
use Rattle.xs_text_out.specs.Walk.{AreFalling, IsAside, IsEntry, base, entered_word, entry_word, left_over, pending, rest_pieces, rest_word, slots_at}
use Rattle.xs_text_out.proofs.Words.{no_items, part_prints}
use Rattle.xs_text_out.proofs.Counting.{kid_length, leaf_counted, node_counted}

abbrev pub task_at : ℕ → ℕ → ℕ → Task
task_at part place end = record { part = part; place = place; end = end }

-- a leaf has no pieces, and a node whose rule is not there has none
pub task_none : (g : Grammar) (p : Pieces) (part : ℕ) (o : Option ℕ) (at : ℕ → List ℕ) → None ≡ o → pieces_word p.text.items (rest_pieces p (task_at part 0 0)) at ≡ spelling g (rule_items g o) at
task_none g p part o at is = ap (λ (x : Option ℕ). spelling g (rule_items g x) at) is

pub task_missing : (g : Grammar) (p : Pieces) (part production : ℕ) (o : Option ℕ) (at : ℕ → List ℕ) → Some production ≡ o → length g.rules ≤ production → pieces_word p.text.items (rest_pieces p (task_at part 0 0)) at ≡ spelling g (rule_items g o) at
task_missing g p part production o at is le = sym (ap (λ (l : List GItem). spelling g l at) (no_items g production le)) ∙ ap (λ (x : Option ℕ). spelling g (rule_items g x) at) is

-- the pieces of a production that is there
pub task_row : (g : Grammar) (p : Pieces) (part production : ℕ) (row : Row) (o : Option ℕ) (at : ℕ → List ℕ) → ArePieces g p → Some production ≡ o → slice_get p.rows.items production ≡ Some row → pieces_word p.text.items (rest_pieces p (task_at part row.begin row.end)) at ≡ spelling g (rule_items g o) at
task_row g p part production row o at are is there = (are.rows production row there).prints at ∙ ap (λ (x : Option ℕ). spelling g (rule_items g x) at) is

-- the last node is the next
pub pending_push : (g : Grammar) (p : Pieces) (f : Flat) (tasks : List Task) (task : Task) → pending g p f (tasks ++ task ∷ []) ≡ rest_word g p f task ++ pending g p f tasks
pending_push g p f [] task = sym (append-nil (rest_word g p f task))
pending_push g p f (first ∷ tasks) task =
    ap (λ w. w ++ rest_word g p f first) (pending_push g p f tasks task) ∙ append_assoc (rest_word g p f task) (pending g p f tasks) (rest_word g p f first)

-- a part that is there
part_found : (f : Flat) (part : ℕ) → part < length f.parts → slice_get f.parts part ≡ Some (get_or f.parts part (Leaf []))
part_found f part lt = slice_get-get_or f.parts part (Leaf []) lt

-- a leaf prints its word
pub leaf_begun : (g : Grammar) (f : Flat) (part : ℕ) (w : List ℕ) → IsFlat f → part < length f.parts → Some w ≡ word_of (slice_get f.parts part) → print g (common_at f part) ≡ w
leaf_begun g f part w flat lt is =
    let found = get_or f.parts part (Leaf []) in
    part_prints g f part found flat (part_found f part lt) ∙ leaf_counted g (trees_of f.parts) (slice_get f.parts part) found w is (part_found f part lt)

-- all pieces of a node's production print what it prints
pub node_begun : (g : Grammar) (p : Pieces) (f : Flat) (part : ℕ) (task : Task) → IsFlat f → part < length f.parts → None ≡ word_of (slice_get f.parts part) → task.part ≡ part → ((at : ℕ → List ℕ) → pieces_word p.text.items (rest_pieces p task) at ≡ spelling g (rule_items g (production_of (slice_get f.parts part))) at) → rest_word g p f task ≡ print g (common_at f part)
node_begun g p f part task flat lt is same prints =
    let found = get_or f.parts part (Leaf []) in
    ap (λ n. pieces_word p.text.items (rest_pieces p task) (slots_at g f n)) same ∙ prints (slots_at g f part)
    ∙ node_counted g (trees_of f.parts) (slice_get f.parts part) found is (part_found f part lt) ∙ sym (part_prints g f part found flat (part_found f part lt))

pub leaf_prints : (g : Grammar) (p : Pieces) (f : Flat) (part : ℕ) (w out new : List ℕ) (tasks : List Task) → IsFlat f → part < length f.parts → Some w ≡ word_of (slice_get f.parts part) → new ≡ out ++ w → new ++ pending g p f tasks ≡ out ++ (print g (common_at f part) ++ pending g p f tasks)
leaf_prints g p f part w out new tasks flat lt is written =
    ap (λ l. l ++ pending g p f tasks) written ∙ append_assoc out w (pending g p f tasks) ∙ ap (λ l. out ++ (l ++ pending g p f tasks)) (sym (leaf_begun g f part w flat lt is))

pub node_prints_on : (g : Grammar) (p : Pieces) (f : Flat) (part : ℕ) (task : Task) (out : List ℕ) (tasks new : List Task) → rest_word g p f task ≡ print g (common_at f part) → new ≡ tasks ++ task ∷ [] → out ++ pending g p f new ≡ out ++ (print g (common_at f part) ++ pending g p f tasks)
node_prints_on g p f part task out tasks new is begun =
    ap (λ l. out ++ l) (ap (pending g p f) begun ∙ pending_push g p f tasks task ∙ ap (λ l. l ++ pending g p f tasks) is)

-- a word of no length is empty
empty_word : (w : List ℕ) → capped (length w) ≡ 0 → w ≡ []
empty_word [] none = refl
empty_word (x ∷ w) none = absurd (omega arith)

-- nothing is printed at a slot where no child stands
pub slot_missing : (g : Grammar) (trees : List Common) (kids : List ℕ) (slot : ℕ) → None ≡ slice_get kids slot → slot_word g trees kids slot ≡ []
slot_missing g trees kids slot is = ap (kid_word g trees) (sym is)

-- the word of a leaf is printed at its slot
pub slot_leaf : (g : Grammar) (f : Flat) (kids : List ℕ) (slot kid : ℕ) (w : List ℕ) → IsFlat f → kid < length f.parts → Some kid ≡ slice_get kids slot → slice_get f.parts kid ≡ Some (Leaf w) → slot_word g (trees_of f.parts) kids slot ≡ w
slot_leaf g f kids slot kid w flat lt is found = ap (kid_word g (trees_of f.parts)) (sym is) ∙ leaf_begun g f kid w flat lt (sym (ap word_of found))

-- what a node prints is printed at its slot
pub slot_node : (g : Grammar) (f : Flat) (kids : List ℕ) (slot kid : ℕ) → Some kid ≡ slice_get kids slot → slot_word g (trees_of f.parts) kids slot ≡ print g (common_at f kid)
slot_node g f kids slot kid is = ap (kid_word g (trees_of f.parts)) (sym is)

-- nothing is printed at a slot whose child prints nothing
pub slot_empty : (g : Grammar) (trees : List Common) (kids lengths : List ℕ) (slot kid number : ℕ) → Some kid ≡ slice_get kids slot → kid < length lengths → number ≡ get_or lengths kid 0 → number ≡ 0 → AreLengths g trees lengths → slot_word g trees kids slot ≡ []
slot_empty g trees kids lengths slot kid number is lt read none are =
    ap (kid_word g trees) (sym is) ∙ empty_word (kid_word g trees (Some kid)) (sym (kid_length g trees lengths kid lt are) ∙ sym read ∙ none)

-- the next piece of a node
next_piece : (p : Pieces) (part place end : ℕ) (piece : Piece) → slice_get p.all.items place ≡ Some piece → place < end → rest_pieces p (task_at part place end) ≡ piece ∷ rest_pieces p (task_at part (place + 1) end)
next_piece p part place end piece is lt =
    let all = take end p.all.items in
    let there : slice_get all place ≡ Some piece = get_taken p.all.items end place piece lt is in
    drop-cons all place piece (slice_get_within all place piece there)
    ∙ ap (λ (x : Piece). x ∷ drop (suc place) all) (get_or_from_slice_get all place piece piece there) ∙ ap (λ n. piece ∷ drop n all) (sym (add-one place))

rest_first : (g : Grammar) (p : Pieces) (f : Flat) (part place end : ℕ) (piece : Piece) → slice_get p.all.items place ≡ Some piece → place < end → rest_word g p f (task_at part place end) ≡ piece_word p.text.items piece (slots_at g f part) ++ rest_word g p f (task_at part (place + 1) end)
rest_first g p f part place end piece is lt = ap (λ (l : List Piece). pieces_word p.text.items l (slots_at g f part)) (next_piece p part place end piece is lt)

-- a piece is printed, or up to a child that is still to be printed
pub piece_step : (g : Grammar) (p : Pieces) (f : Flat) (part place end : ℕ) (piece : Piece) (entered : Option ℕ) (out new whole : List ℕ) → slice_get p.all.items place ≡ Some piece → place < end → new ++ entered_word g f entered ≡ out ++ piece_word p.text.items piece (slots_at g f part) → out ++ rest_word g p f (task_at part place end) ≡ whole → new ++ (entered_word g f entered ++ rest_word g p f (task_at part (place + 1) end)) ≡ whole
piece_step g p f part place end piece entered out new whole is lt printed so_far =
    let rest = rest_word g p f (task_at part (place + 1) end) in
    let here = piece_word p.text.items piece (slots_at g f part) in
    sym (append_assoc new (entered_word g f entered) rest) ∙ ap (λ l. l ++ rest) printed ∙ append_assoc out here rest ∙ ap (λ l. out ++ l) (sym (rest_first g p f part place end piece is lt)) ∙ so_far

-- there is room for a piece where there is for all that is still to be printed
pub piece_room : (g : Grammar) (p : Pieces) (f : Flat) (part place end : ℕ) (piece : Piece) (out start more : List ℕ) → slice_get p.all.items place ≡ Some piece → place < end → out ++ rest_word g p f (task_at part place end) ≡ start ++ more → length out + length (piece_word p.text.items piece (slots_at g f part)) ≤ length start + length more
piece_room g p f part place end piece out start more is lt so_far =
    let here = piece_word p.text.items piece (slots_at g f part) in
    let rest = rest_word g p f (task_at part (place + 1) end) in
    let all : length out + (length here + length rest) ≡ length start + length more =
    ap (λ n. length out + n) (sym (length-append here rest)) ∙ sym (length-append out (here ++ rest)) ∙ ap length (ap (λ l. out ++ l) (sym (rest_first g p f part place end piece is lt)) ∙ so_far) ∙ length-append start more in
    omega (arith, all)

-- fewer pieces are still to be printed after one that is there
pub rest_less : (p : Pieces) (part begin place end : ℕ) (piece : Piece) → slice_get p.all.items place ≡ Some piece → place < end → begin ≤ place → length (rest_pieces p (task_at part (place + 1) end)) < length (rest_pieces p (task_at part begin end))
rest_less p part begin place end piece is lt le =
    let all = take end p.all.items in
    let within = slice_get_within all place piece (get_taken p.all.items end place piece lt is) in
    omega (arith, within, length-drop begin all, length-drop (place + 1) all)

-- what is printed of a node, and what then is still to be printed of it, come before the other nodes
pub printed_before : (new out entry rest later : List ℕ) → new ++ entry ≡ out ++ rest → new ++ (entry ++ later) ≡ out ++ (rest ++ later)
printed_before new out entry rest later is = sym (append_assoc new entry later) ∙ ap (λ l. l ++ later) is ∙ append_assoc out rest later

-- what is still to be printed of a node that was put aside, and of those before it
pending_aside : (g : Grammar) (p : Pieces) (f : Flat) (tasks pushed : List Task) (task : Task) (more : Bool) → IsAside more task tasks pushed → (more ≡ false → rest_pieces p task ≡ []) → pending g p f pushed ≡ rest_word g p f task ++ pending g p f tasks
pending_aside g p f tasks pushed task true aside last = ap (pending g p f) aside ∙ pending_push g p f tasks task
pending_aside g p f tasks pushed task false aside last =
    ap (pending g p f) aside ∙ sym (ap (λ (l : List Piece). pieces_word p.text.items l (slots_at g f task.part) ++ pending g p f tasks) (last refl))

-- a child begins, and the node goes on after it
pending_entered : (g : Grammar) (p : Pieces) (f : Flat) (kid : ℕ) (begun task : Task) (tasks pushed : List Task) (more : Bool) → rest_word g p f begun ≡ print g (common_at f kid) → IsAside more task tasks pushed → (more ≡ false → rest_pieces p task ≡ []) → rest_word g p f begun ++ pending g p f pushed ≡ (print g (common_at f kid) ++ rest_word g p f task) ++ pending g p f tasks
pending_entered g p f kid begun task tasks pushed more is aside last =
    let child = print g (common_at f kid) in
    ap (λ l. l ++ pending g p f pushed) is
    ∙ ap (λ l. child ++ l) (pending_aside g p f tasks pushed task more aside last) ∙ sym (append_assoc child (rest_word g p f task) (pending g p f tasks))

-- where no piece is left nothing is
pub rest_none : (p : Pieces) (part place end : ℕ) → (end ≤ place) ⊎ (length p.all.items ≤ place) → rest_pieces p (task_at part place end) ≡ []
rest_none p part place end past =
    let long = length-take end p.all.items in
    elim past [
      | inl le ↦ drop_all place (take end p.all.items) (omega (arith, long, le))
      | inr le ↦ drop_all place (take end p.all.items) (omega (arith, long, le))
    ]

none_some : {X : Type 0} (x : X) → None ≡ Some x → ⊥
none_some x e = cc

-- no piece is at a place past the last
pub past_last : {X : Type 0} (xs : List X) (k : ℕ) → None ≡ slice_get xs k → length xs ≤ k
past_last [] k is = omega arith
past_last (x ∷ xs) zero is = absurd (none_some x is)
past_last (x ∷ xs) (suc k) is = let rest = past_last xs k is in omega arith

-- nothing more of a node is printed where no piece is left
pub last_step : (g : Grammar) (p : Pieces) (f : Flat) (part place end : ℕ) (out whole : List ℕ) → (end ≤ place) ⊎ (length p.all.items ≤ place) → out ++ rest_word g p f (task_at part place end) ≡ whole → out ++ [] ≡ whole
last_step g p f part place end out whole past so_far =
    ap (λ (l : List Piece). out ++ pieces_word p.text.items l (slots_at g f part)) (sym (rest_none p part place end past)) ∙ so_far

-- the nodes fall
pub falling_front : (n : ℕ) (tasks : List Task) (task : Task) → AreFalling n (tasks ++ task ∷ []) → AreFalling n tasks
falling_front n [] task falling = tt
falling_front n (first ∷ tasks) task falling = (falling.0, falling_front first.part tasks task falling.1)

falling_same : (n : ℕ) (tasks : List Task) (task other : Task) → other.part ≡ task.part → AreFalling n (tasks ++ task ∷ []) → AreFalling n (tasks ++ other ∷ [])
falling_same n [] task other same falling = (omega (arith, same, falling.0), tt)
falling_same n (first ∷ tasks) task other same falling = (falling.0, falling_same first.part tasks task other same falling.1)

pub falling_on : (n : ℕ) (tasks : List Task) (task other : Task) → AreFalling n (tasks ++ task ∷ []) → other.part < task.part → AreFalling n ((tasks ++ task ∷ []) ++ other ∷ [])
falling_on n [] task other falling lt = (falling.0, (lt, tt))
falling_on n (first ∷ tasks) task other falling lt = (falling.0, falling_on first.part tasks task other falling.1 lt)

-- no more nodes than there are parts, and below the last no more than its place says
pub falling_length : (n : ℕ) (tasks : List Task) (task : Task) → AreFalling n (tasks ++ task ∷ []) → suc (length tasks) + task.part ≤ n
falling_length n [] task falling = omega (arith, falling.0)
falling_length n (first ∷ tasks) task falling =
    let rest = falling_length first.part tasks task falling.1 in
    omega (arith, rest, falling.0)

pub falling_last : (n : ℕ) (tasks : List Task) (task : Task) → AreFalling n (tasks ++ task ∷ []) → task.part < n
falling_last n tasks task falling =
    let long = falling_length n tasks task falling in
    omega arith

falling_lower : (n : ℕ) (tasks : List Task) (task other : Task) → AreFalling n (tasks ++ task ∷ []) → other.part < task.part → AreFalling n (tasks ++ other ∷ [])
falling_lower n [] task other falling lt = (omega (arith, falling.0), tt)
falling_lower n (first ∷ tasks) task other falling lt = (falling.0, falling_lower first.part tasks task other falling.1 lt)

-- a child begins, and the nodes still fall
falling_entered : (n : ℕ) (tasks pushed : List Task) (task rest begun : Task) (more : Bool) → AreFalling n (tasks ++ task ∷ []) → rest.part ≡ task.part → begun.part < task.part → IsAside more rest tasks pushed → AreFalling n (pushed ++ begun ∷ [])
falling_entered n tasks pushed task rest begun true falling same lt aside =
    let first = falling_on n tasks rest begun (falling_same n tasks task rest same falling) (omega (arith, same, lt)) in
    subst (AreFalling n) (sym (ap (λ (l : List Task). l ++ begun ∷ []) aside)) first
falling_entered n tasks pushed task rest begun false falling same lt aside =
    subst (AreFalling n) (sym (ap (λ (l : List Task). l ++ begun ∷ []) aside)) (falling_lower n tasks task begun falling lt)

-- how much there is to do
abbrev weight : Pieces → Task → ℕ
weight p task = suc (length (rest_pieces p task)) * base p ^ task.part

left_over_push : (p : Pieces) (tasks : List Task) (task : Task) → left_over p (tasks ++ task ∷ []) ≡ left_over p tasks + weight p task
left_over_push p [] task = omega arith
left_over_push p (first ∷ tasks) task =
    let rest = left_over_push p tasks task in
    omega (arith, rest)

power_some : (p : Pieces) (part : ℕ) → 0 < base p ^ part
power_some p part = one-le-pow part (base p) (omega arith)

rest_few : (p : Pieces) (task : Task) → length (rest_pieces p task) ≤ length p.all.items
rest_few p task = omega (arith, length-drop task.place (take task.end p.all.items), length-take task.end p.all.items)

-- a digit at a place is less than one at a higher place
digit_below : (p : Pieces) (task : Task) (part : ℕ) → task.part < part → weight p task < base p ^ part
digit_below p task part lt =
    let kid = task.part in
    let few = rest_few p task in
    let least : base p ^ suc kid ≤ base p ^ part = pow-le-pow_right {n = base p} (omega arith) {i = suc kid} {j = part} (omega arith) in
    let more : weight p task < base p * base p ^ kid = mul-lt-mul_of_pos_right {m = suc (length (rest_pieces p task))} {n = base p} {k = base p ^ kid} (omega (arith, few)) (power_some p kid) in
    let step : base p ^ suc kid ≡ base p * base p ^ kid = pow-succ' (base p) kid in
    omega (arith, least, more, step)

pub less_gone : (p : Pieces) (tasks : List Task) (task : Task) → left_over p tasks < left_over p (tasks ++ task ∷ [])
less_gone p tasks task =
    let some : 0 * base p ^ task.part < weight p task = mul-lt-mul_of_pos_right {m = 0} {n = suc (length (rest_pieces p task))} {k = base p ^ task.part} (omega arith) (power_some p task.part) in
    omega (arith, left_over_push p tasks task, some)

-- a node with fewer pieces that are left, and its place
weight_less : (p : Pieces) (part place next end : ℕ) → length (rest_pieces p (task_at part next end)) < length (rest_pieces p (task_at part place end)) → weight p (task_at part next end) + base p ^ part ≤ weight p (task_at part place end)
weight_less p part place next end less =
    let k = length (rest_pieces p (task_at part next end)) in
    let m = length (rest_pieces p (task_at part place end)) in
    let x = base p ^ part in
    let more : suc (suc k) * x ≤ suc m * x = mul-le-mul_right {m = suc (suc k)} {n = suc m} x (omega arith) in
    let split : suc (suc k) * x ≡ suc k * x + x = spread k x in
    subst (λ n. n ≤ suc m * x) split more
  where
    spread : (k x : ℕ) → suc (suc k) * x ≡ suc k * x + x
    spread k x = omega arith

-- a child begins, and there is less to do
less_entered : (p : Pieces) (tasks pushed : List Task) (part place next end : ℕ) (begun : Task) (more : Bool) → length (rest_pieces p (task_at part next end)) < length (rest_pieces p (task_at part place end)) → begun.part < part → IsAside more (task_at part next end) tasks pushed → left_over p (pushed ++ begun ∷ []) < left_over p (tasks ++ task_at part place end ∷ [])
less_entered p tasks pushed part place next end begun true less lt more =
    let child = digit_below p begun part lt in
    let node = weight_less p part place next end less in
    let first = ap (left_over p) more ∙ left_over_push p tasks (task_at part next end) in
    let second = left_over_push p pushed begun in
    omega (arith, child, node, first, second, left_over_push p tasks (task_at part place end))
less_entered p tasks pushed part place next end begun false less lt more =
    let child = digit_below p begun part lt in
    let node = weight_less p part place next end less in
    let same = ap (λ (l : List Task). left_over p (l ++ begun ∷ [])) more in
    omega (arith, child, node, same, left_over_push p tasks begun, left_over_push p tasks (task_at part place end))

-- a child is entered: what is printed stays the same, the nodes fall on, and less is left over
pub entered : (g : Grammar) (p : Pieces) (f : Flat) (task begun : Task) (entry : Entry) (tasks pushed : List Task) (out new : List ℕ) → IsFlat f → AreFalling (length f.parts) (tasks ++ task ∷ []) → IsEntry p f task entry → begun.part ≡ entry.kid → ((at : ℕ → List ℕ) → pieces_word p.text.items (rest_pieces p begun) at ≡ spelling g (rule_items g (production_of (slice_get f.parts entry.kid))) at) → IsAside entry.more (task_at task.part entry.next task.end) tasks pushed → new ++ entry_word g p f task (Some entry) ≡ out ++ rest_word g p f task → (new ++ (rest_word g p f begun ++ pending g p f pushed) ≡ out ++ (rest_word g p f task ++ pending g p f tasks)) × AreFalling (length f.parts) (pushed ++ begun ∷ []) × (left_over p (pushed ++ begun ∷ []) < left_over p (tasks ++ task ∷ []))
entered g p f task begun entry tasks pushed out new flat falling is same prints aside printed =
    let rest = task_at task.part entry.next task.end in
    let last = falling_last (length f.parts) tasks task falling in
    let below : begun.part < task.part = omega (arith, same, is.kid.before) in
    let child = node_begun g p f entry.kid begun flat (omega (arith, last, is.kid.before)) is.kid.node same prints in
    let ahead = pending_entered g p f entry.kid begun rest tasks pushed entry.more child aside is.last in (
      ap (λ (l : List ℕ). new ++ l) ahead ∙ printed_before new out (print g (common_at f entry.kid) ++ rest_word g p f rest) (rest_word g p f task) (pending g p f tasks) printed,
      falling_entered (length f.parts) tasks pushed task rest begun entry.more falling refl below aside,
      less_entered p tasks pushed task.part task.place entry.next task.end begun entry.more is.less below aside,
    )

-- what is printed and what is still to be printed is the whole, and the next node is printed first
pub next_whole : (g : Grammar) (p : Pieces) (f : Flat) (out whole : List ℕ) (all tasks : List Task) (task : Task) → out ++ pending g p f all ≡ whole → all ≡ tasks ++ task ∷ [] → out ++ (rest_word g p f task ++ pending g p f tasks) ≡ whole
next_whole g p f out whole all tasks task is popped =
    ap (λ w. out ++ w) (sym (ap (pending g p f) popped ∙ pending_push g p f tasks task)) ∙ is

pub next_room : (out here later start all : List ℕ) → out ++ (here ++ later) ≡ start ++ all → length out + length here ≤ length start + length all
next_room out here later start all is =
    omega (arith, ap length is, length-append out (here ++ later), length-append here later, length-append start all)

-- a root that is a leaf is what is printed
pub root_room : (g : Grammar) (f : Flat) (root : ℕ) (w : List ℕ) → IsFlat f → root ≡ f.root → word_of (slice_get f.parts root) ≡ Some w → length (print g (common_of f)) ≡ length w
root_room g f root w flat is leaf =
    let there : root < length f.parts = subst (λ r. r < length f.parts) (sym is) flat.root in
    ap length (ap (λ r. print g (common_at f r)) (sym is) ∙ leaf_begun g f root w flat there (sym leaf))
