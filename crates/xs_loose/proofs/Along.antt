-- What arcs read over a nest, and the paths through a word and through an automaton.
use Rattle.std.proofs.Common.{◌≡◌, ℕ, zero, suc, ◌+◌, Bool, true, false, List, [], ◌∷◌, ◌++◌, slice_get, slice_index_or, refl, sym, ap, subst, ◌∙◌, inl, inr, arith, append_assoc, append-nil}
use Rattle.std.specs.Prelude.{IsSomeAnd}
use Rattle.std.specs.List.{Contains}
use Rattle.xs_class.specs.Classes.{Has}
use Rattle.xs_regex.specs.declared.position.Position.{Position}
use Rattle.xs_regex.specs.Automaton as A
use Rattle.xs_auto.specs.Nets.{Graph}
use Rattle.xs_auto.specs.Nests.{Group, IsGroup, Crossing, stands, drifts, takes, enters, AcceptsNested}
use Rattle.xs_gram.specs.declared.parts.GItem.{GItem}
use Rattle.xs_gram.specs.Grammar.{Grammar}
use Rattle.xs_loose.specs.Arcs.{Label, reads, passes, calls, Arc, read, pass, word_arcs, after_word, class_at, arcs_into, arcs_on, arcs_out, arc_past, after_automaton, automaton_arcs}
use Rattle.xs_loose.specs.Nets.{IsNumbered}
use Rattle.xs_loose.proofs.Among.{Among, front, further, among_left, among_right, to_contains}
use Rattle.xs_loose.proofs.Paths.{Path, stays, goes, path_one, path_snoc}

-- the word is one of the group under the number: its left symbol, a word that its content accepts,
-- and its right symbol
pub record Entering (nest : List Group) (h : ℕ) (w : List ℕ) : Type 0 where
  pub group : Group
  pub is : IsGroup nest h group
  pub content : List ℕ
  pub accepts : AcceptsNested nest group.content content
  pub word : w ≡ group.left ∷ (content ++ group.right ∷ [])

-- what an arc with the label reads
abbrev pub Reads : List Group → Label → List ℕ → Type 0
Reads nest (reads class) w = (s : ℕ) × Has class s × (w ≡ s ∷ [])
Reads nest passes w = w ≡ []
Reads nest (calls h) w = Entering nest h w

-- one of the arcs leads from a by the word to b
pub record Along (nest : List Group) (arcs : List Arc) (a : ℕ) (w : List ℕ) (b : ℕ) : Type 0 where
  pub label : Label
  pub arc : Among arcs (record { from = a; label = label; to = b })
  pub reads_word : Reads nest label w

-- all of these arcs are among those
pub record Within (own arcs : List Arc) : Type 0 where
  pub each : (x : Arc) → Among own x → Among arcs x

pub within_all : {arcs : List Arc} → Within arcs arcs
within_all = record { each = λ x h. h }

pub within_as : {own arcs all : List Arc} → arcs ≡ own → Within arcs all → Within own all
within_as {all = all} e h = subst (λ (l : List Arc). Within l all) e h

pub within_on : {own arcs all : List Arc} → Within own arcs → Within arcs all → Within own all
within_on h k = record { each = λ x c. k.each x (h.each x c) }

pub within_left : (own rest : List Arc) {all : List Arc} → Within (own ++ rest) all → Within own all
within_left own rest h = record { each = λ x c. h.each x (among_left own rest c) }

pub within_right : (own : List Arc) {rest all : List Arc} → Within (own ++ rest) all → Within rest all
within_right own {rest} h = record { each = λ x c. h.each x (among_right own rest c) }

pub within_first : {x : Arc} {rest all : List Arc} → Within (x ∷ rest) all → Among all x
within_first {x} h = h.each x (front refl)

pub within_rest : {x : Arc} {rest all : List Arc} → Within (x ∷ rest) all → Within rest all
within_rest h = record { each = λ y c. h.each y (further c) }

-- an empty move
pub moved : {nest : List Group} {all : List Arc} {s t a b : ℕ} → Among all (pass s t) → a ≡ s → b ≡ t → Path (Along nest all) a [] b
moved {nest} {all} {s} {t} {a} {b} c p q =
    subst (λ (n : ℕ). Path (Along nest all) n [] b) (sym p) (subst (λ (n : ℕ). Path (Along nest all) s [] n) (sym q) (path_one (record { label = passes; arc = c; reads_word = refl })))

-- a path over the arcs of a net crosses it
pub crossed : {g : Grammar} {p k : ℕ} {is : List GItem} {n : Graph} (nest : List Group) (d : IsNumbered g p k is n) {a b : ℕ} {w : List ℕ} → Path (Along nest d.arcs) a w b → Crossing nest n a w b
crossed nest d stays = stands
crossed {n = n} nest d (goes {a = a} {b = b} {c = c} {u = u} {v = v} {w = w} t p e) = one t.label t.arc t.reads_word (crossed nest d p)
  where
    one : (label : Label) → Among d.arcs (record { from = a; label = label; to = b }) → Reads nest label u → Crossing nest n b v c → Crossing nest n a w c
    one (reads class) arc r rest = subst (λ (l : List ℕ). Crossing nest n a l c) (sym (e ∙ ap (λ (l : List ℕ). l ++ v) r.2)) (takes (record { class = class; to = b }) ((d.edges a (record { class = class; to = b })).1 (to_contains arc)) r.1 rest)
    one passes arc r rest = subst (λ (l : List ℕ). Crossing nest n a l c) (sym (e ∙ ap (λ (l : List ℕ). l ++ v) r)) (drifts ((d.moves a b).1 (to_contains arc)) rest)
    one (calls h) arc r rest = enters (record { group = h; to = b }) r.group ((d.calls a (record { group = h; to = b })).1 (to_contains arc)) r.is r.accepts.starts r.accepts.crosses r.accepts.final rest (e ∙ ap (λ (l : List ℕ). l ++ v) r.word ∙ ap (λ (l : List ℕ). r.group.left ∷ l) (append_assoc r.content (r.group.right ∷ []) v))

-- the path through a word
pub word_path : {nest : List Group} {all : List Arc} (f : List ℕ) (before first : ℕ) → Within (word_arcs f before first) all → Path (Along nest all) before f (after_word f before first)
word_path [] before first h = stays
word_path (s ∷ w) before first h =
    goes (record { label = reads ((s, s) ∷ []); arc = within_first h; reads_word = (s, inl (omega arith, omega arith), refl) }) (word_path w first (suc first) (within_rest h)) refl

-- the arcs of an automaton
into_there : (p : Position) (first from : ℕ) (ks : List ℕ) (k : ℕ) → Contains ks k → Among (arcs_into p first from ks) (read from (class_at p k) (first + k))
into_there p first from [] k (n, lt, e) = absurd (omega arith)
into_there p first from (j ∷ ks) k (zero, lt, e) = subst (λ (m : ℕ). Among (arcs_into p first from (j ∷ ks)) (read from (class_at p m) (first + m))) e (front refl)
into_there p first from (j ∷ ks) k (suc n, lt, e) = further (into_there p first from ks k (n, omega arith, e))

on_there : (p : Position) (first start : ℕ) (rows : List (List ℕ)) (j k : ℕ) → IsSomeAnd (slice_get rows j) (λ row. Contains row k) → Among (arcs_on p first start rows) (read (first + (start + j)) (class_at p k) (first + k))
on_there p first start [] j k h = absurd h
on_there p first start (row ∷ rows) zero k h =
    let e : first + start ≡ first + (start + 0) = omega arith in
    among_left (arcs_into p first (first + start) row) (arcs_on p first (suc start) rows) (subst (λ (n : ℕ). Among (arcs_into p first (first + start) row) (read n (class_at p k) (first + k))) e (into_there p first (first + start) row k h))
on_there p first start (row ∷ rows) (suc j) k h =
    let e : first + (suc start + j) ≡ first + (start + suc j) = omega arith in
    among_right (arcs_into p first (first + start) row) (arcs_on p first (suc start) rows) (subst (λ (n : ℕ). Among (arcs_on p first (suc start) rows) (read n (class_at p k) (first + k))) e (on_there p first (suc start) rows j k h))

out_there : (first : ℕ) (ks : List ℕ) (to k : ℕ) → Contains ks k → Among (arcs_out first ks to) (pass (first + k) to)
out_there first [] to k (n, lt, e) = absurd (omega arith)
out_there first (j ∷ ks) to k (zero, lt, e) = subst (λ (m : ℕ). Among (arcs_out first (j ∷ ks) to) (pass (first + m) to)) e (front refl)
out_there first (j ∷ ks) to k (suc n, lt, e) = further (out_there first ks to k (n, omega arith, e))

past_there : (nullable : Bool) (from to : ℕ) → nullable ≡ true → Among (arc_past nullable from to) (pass from to)
past_there true from to e = front refl
past_there false from to e = absurd cc

class_has : (classes : List (List (ℕ × ℕ))) (k s : ℕ) → IsSomeAnd (slice_get classes k) (λ class. Has class s) → Has (slice_index_or classes k []) s
class_has [] k s h = absurd h
class_has (c ∷ cs) zero s h = h
class_has (c ∷ cs) (suc k) s h = class_has cs k s h

-- the path through an automaton
module _ {all : List Arc} (p : Position) (before first : ℕ) (within : Within (automaton_arcs p before first) all) where
  onward : Within (arcs_on p first 0 p.follow ++ (arcs_out first p.last (after_automaton p first) ++ arc_past p.nullable before (after_automaton p first))) all
  onward = within_right (arcs_into p first before p.first) within

  outward : Within (arcs_out first p.last (after_automaton p first) ++ arc_past p.nullable before (after_automaton p first)) all
  outward = within_right (arcs_on p first 0 p.follow) onward

  pub first_arc : (k : ℕ) → Contains p.first k → Among all (read before (class_at p k) (first + k))
  first_arc k among = (within_left (arcs_into p first before p.first) (arcs_on p first 0 p.follow ++ (arcs_out first p.last (after_automaton p first) ++ arc_past p.nullable before (after_automaton p first))) within).each _ (into_there p first before p.first k among)

  pub next_arc : (j k : ℕ) → A.Leads p j k → Among all (read (first + j) (class_at p k) (first + k))
  next_arc j k leads =
      let e : first + (0 + j) ≡ first + j = omega arith in
      let h = (within_left (arcs_on p first 0 p.follow) (arcs_out first p.last (after_automaton p first) ++ arc_past p.nullable before (after_automaton p first)) onward).each _ (on_there p first 0 p.follow j k leads) in
      subst (λ (n : ℕ). Among all (read n (class_at p k) (first + k))) e h

  pub last_arc : (k : ℕ) → Contains p.last k → Among all (pass (first + k) (after_automaton p first))
  last_arc k among = (within_left (arcs_out first p.last (after_automaton p first)) (arc_past p.nullable before (after_automaton p first)) outward).each _ (out_there first p.last (after_automaton p first) k among)

  pub past_arc : p.nullable ≡ true → Among all (pass before (after_automaton p first))
  past_arc e = (within_right (arcs_out first p.last (after_automaton p first)) outward).each _ (past_there p.nullable before (after_automaton p first) e)

  run_path : {nest : List Group} {w : List ℕ} {k : ℕ} → A.Runs p w k → Path (Along nest all) before w (first + k)
  run_path {k = k} (A.begins s among has e) = path_one (record { label = reads (class_at p k); arc = first_arc k among; reads_word = (s, class_has p.classes k s has, e) })
  run_path {nest} {k = k} (A.goes v j s run leads has e) =
      let step : Along nest all (first + j) (s ∷ []) (first + k) = record { label = reads (class_at p k); arc = next_arc j k leads; reads_word = (s, class_has p.classes k s has, refl) } in
      subst (λ (l : List ℕ). Path (Along nest all) before l (first + k)) (sym e) (path_snoc (run_path run) step)

  pub automaton_path : {nest : List Group} (w : List ℕ) → A.Accepts p w → Path (Along nest all) before w (after_automaton p first)
  automaton_path w (inl h) = path_one (record { label = passes; arc = past_arc h.1; reads_word = h.0 })
  automaton_path {nest} w (inr h) =
      let step : Along nest all (first + h.0) [] (after_automaton p first) = record { label = passes; arc = last_arc h.0 h.2; reads_word = refl } in
      subst (λ (l : List ℕ). Path (Along nest all) before l (after_automaton p first)) (append-nil w) (path_snoc (run_path h.1) step)
