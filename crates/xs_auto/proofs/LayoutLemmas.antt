-- Nets that are kept in lists, and drafts as arcs are added.
use Rattle.std.proofs.Common.{◌≡◌, ℕ, zero, suc, ◌+◌, ◌-◌, ◌<◌, ◌≤◌, ◌^◌, Bool, true, false, List, [], ◌∷◌, ◌++◌, map, length, length-append, get_or, set, refl, sym, ap, ◌∙◌, subst, inl, inr, arith, get_or-set_same, get_or-set_other, length-set, Option, Some, None, IfSome, nat_eq, Result, Ok, Err, OnErr}
use Rattle.std.specs.List.{All, filter, range_with_len}
use Rattle.std.proofs.Math.ListN.{get_or-map as map_at}
use Rattle.std.proofs.Math.Seq.{get_or-append_seam}
use Rattle.std.specs.List.{slice_get}
use Rattle.std.proofs.lemmas.Bool.{cases_lt}
use Rattle.std.proofs.lemmas.Option.{get_or_from_slice_get, slice_get_read}
use Rattle.std.proofs.lemmas.List.{map-append, length-map, get_or_past, get_or_append_left, get_or-map}
use Rattle.std.proofs.lemmas.List.Elements.{All-append, All-filter, All-map}
use Rattle.std.proofs.lemmas.List.FromFn.{length-map-range_with_len, get_or-map-range_with_len}
use Rattle.xs_auto.specs.declared.call.Call.{Call}
use Rattle.xs_auto.specs.declared.edge.EdgeRow.{EdgeRow}
use Rattle.xs_auto.specs.declared.grouped.Leaving.{Leaving}
use Rattle.xs_auto.specs.Edges.{Edge}
use Rattle.xs_auto.specs.Grouping.{LeavesBelow, arcs_from, grouped}
use Rattle.xs_auto.specs.Layout.{NamesBelow, seen, graph_of, edge_lists, IsLaidOut, draft_of, IsDrafted, HasNumber, KeepsNumbers}
use Rattle.xs_auto.specs.Nets.{Graph, Node, bare, states, final_at, edges_of, moves_of, calls_of, IsSound, KeepsStates, AddsState, AddsEdge, AddsMove, AddsCall, SetsFinal}
use Rattle.xs_auto.proofs.GroupLemmas.{from_here, from_there, grouped_at}

-- what the net of lists has
pub states_are : (start : Option ℕ) (finals : List Bool) (es : List (List Edge)) (ms : List (List ℕ)) (ks : List (List Call)) → states (graph_of start finals es ms ks) ≡ length finals
states_are start finals es ms ks = length-map-range_with_len _ 0 (length finals)

abbrev node_of : List Bool → List (List Edge) → List (List ℕ) → List (List Call) → ℕ → Node
node_of finals es ms ks a = record { final = get_or finals a false; edges = get_or es a []; moves = get_or ms a []; calls = get_or ks a [] }

node_there : (start : Option ℕ) (finals : List Bool) (es : List (List Edge)) (ms : List (List ℕ)) (ks : List (List Call)) (a : ℕ) → a < length finals → get_or (graph_of start finals es ms ks).nodes a bare ≡ node_of finals es ms ks a
node_there start finals es ms ks a l = get_or-map-range_with_len (node_of finals es ms ks) 0 (length finals) a a bare l (omega arith)

node_past : (start : Option ℕ) (finals : List Bool) (es : List (List Edge)) (ms : List (List ℕ)) (ks : List (List Call)) (a : ℕ) → length finals ≤ a → get_or (graph_of start finals es ms ks).nodes a bare ≡ bare
node_past start finals es ms ks a le = get_or_past (graph_of start finals es ms ks).nodes a bare (rw (states_are start finals es ms ks) le)

pub final_is : (start : Option ℕ) (finals : List Bool) (es : List (List Edge)) (ms : List (List ℕ)) (ks : List (List Call)) (a : ℕ) → final_at (graph_of start finals es ms ks) a ≡ get_or finals a false
final_is start finals es ms ks a = elim (cases_lt a (length finals)) [
  | inl l ↦ ap (λ n. n.final) (node_there start finals es ms ks a l)
  | inr le ↦ ap (λ n. n.final) (node_past start finals es ms ks a le) ∙ sym (get_or_past finals a false le)
]

pub edges_are : (start : Option ℕ) (finals : List Bool) (es : List (List Edge)) (ms : List (List ℕ)) (ks : List (List Call)) (a : ℕ) → length es ≡ length finals → edges_of (graph_of start finals es ms ks) a ≡ get_or es a []
edges_are start finals es ms ks a len = elim (cases_lt a (length finals)) [
  | inl l ↦ ap (λ n. n.edges) (node_there start finals es ms ks a l)
  | inr le ↦ ap (λ n. n.edges) (node_past start finals es ms ks a le) ∙ sym (get_or_past es a [] (rw len le))
]

pub moves_are : (start : Option ℕ) (finals : List Bool) (es : List (List Edge)) (ms : List (List ℕ)) (ks : List (List Call)) (a : ℕ) → length ms ≡ length finals → moves_of (graph_of start finals es ms ks) a ≡ get_or ms a []
moves_are start finals es ms ks a len = elim (cases_lt a (length finals)) [
  | inl l ↦ ap (λ n. n.moves) (node_there start finals es ms ks a l)
  | inr le ↦ ap (λ n. n.moves) (node_past start finals es ms ks a le) ∙ sym (get_or_past ms a [] (rw len le))
]

pub calls_are : (start : Option ℕ) (finals : List Bool) (es : List (List Edge)) (ms : List (List ℕ)) (ks : List (List Call)) (a : ℕ) → length ks ≡ length finals → calls_of (graph_of start finals es ms ks) a ≡ get_or ks a []
calls_are start finals es ms ks a len = elim (cases_lt a (length finals)) [
  | inl l ↦ ap (λ n. n.calls) (node_there start finals es ms ks a l)
  | inr le ↦ ap (λ n. n.calls) (node_past start finals es ms ks a le) ∙ sym (get_or_past ks a [] (rw len le))
]

-- the edges of a state, by the table of classes
pub listed_edges : (start : Option ℕ) (finals : List Bool) (classes : List (List (ℕ × ℕ))) (rows : List (List EdgeRow)) (ms : List (List ℕ)) (ks : List (List Call)) (a : ℕ) → length rows ≡ length finals → edges_of (graph_of start finals (edge_lists classes rows) ms ks) a ≡ map (seen classes) (get_or rows a [])
listed_edges start finals classes rows ms ks a len = edges_are start finals (edge_lists classes rows) ms ks a (length-map rows (map (seen classes)) ∙ len) ∙ map_at (map (seen classes)) rows a []

-- what a net that is kept in lists has
pub laid_states : (start : Option ℕ) (finals : List Bool) (classes : List (List (ℕ × ℕ))) (rows : List (List EdgeRow)) (ms : List (List ℕ)) (ks : List (List Call)) (n : Graph) → graph_of start finals (edge_lists classes rows) ms ks ≡ n → states n ≡ length finals
laid_states start finals classes rows ms ks n e = sym (ap states e) ∙ states_are start finals (edge_lists classes rows) ms ks

pub laid_few : (start : Option ℕ) (finals : List Bool) (classes : List (List (ℕ × ℕ))) (rows : List (List EdgeRow)) (ms : List (List ℕ)) (ks : List (List Call)) → IsLaidOut start finals classes rows ms ks → length finals < 2 ^ 32
laid_few start finals classes rows ms ks h = rw (states_are start finals (edge_lists classes rows) ms ks) at h.sound.few

pub laid_final : (start : Option ℕ) (finals : List Bool) (classes : List (List (ℕ × ℕ))) (rows : List (List EdgeRow)) (ms : List (List ℕ)) (ks : List (List Call)) (n : Graph) (a : ℕ) → graph_of start finals (edge_lists classes rows) ms ks ≡ n → get_or finals a false ≡ final_at n a
laid_final start finals classes rows ms ks n a e = sym (final_is start finals (edge_lists classes rows) ms ks a) ∙ ap (λ g. final_at g a) e

pub laid_edges : (start : Option ℕ) (finals : List Bool) (classes : List (List (ℕ × ℕ))) (rows : List (List EdgeRow)) (ms : List (List ℕ)) (ks : List (List Call)) (n : Graph) (a : ℕ) → IsLaidOut start finals classes rows ms ks → graph_of start finals (edge_lists classes rows) ms ks ≡ n → map (seen classes) (get_or rows a []) ≡ edges_of n a
laid_edges start finals classes rows ms ks n a h e = sym (listed_edges start finals classes rows ms ks a h.edges) ∙ ap (λ g. edges_of g a) e

pub laid_moves : (start : Option ℕ) (finals : List Bool) (classes : List (List (ℕ × ℕ))) (rows : List (List EdgeRow)) (ms : List (List ℕ)) (ks : List (List Call)) (n : Graph) (a : ℕ) → IsLaidOut start finals classes rows ms ks → graph_of start finals (edge_lists classes rows) ms ks ≡ n → get_or ms a [] ≡ moves_of n a
laid_moves start finals classes rows ms ks n a h e = sym (moves_are start finals (edge_lists classes rows) ms ks a h.moves) ∙ ap (λ g. moves_of g a) e

pub laid_calls : (start : Option ℕ) (finals : List Bool) (classes : List (List (ℕ × ℕ))) (rows : List (List EdgeRow)) (ms : List (List ℕ)) (ks : List (List Call)) (n : Graph) (a : ℕ) → IsLaidOut start finals classes rows ms ks → graph_of start finals (edge_lists classes rows) ms ks ≡ n → get_or ks a [] ≡ calls_of n a
laid_calls start finals classes rows ms ks n a h e = sym (calls_are start finals (edge_lists classes rows) ms ks a h.calls) ∙ ap (λ g. calls_of g a) e

pub laid_sound : (start : Option ℕ) (finals : List Bool) (classes : List (List (ℕ × ℕ))) (rows : List (List EdgeRow)) (ms : List (List ℕ)) (ks : List (List Call)) (n : Graph) → IsLaidOut start finals classes rows ms ks → graph_of start finals (edge_lists classes rows) ms ks ≡ n → IsSound n
laid_sound start finals classes rows ms ks n h e = subst IsSound e h.sound

-- the edge of a row
pub rows_length : (classes : List (List (ℕ × ℕ))) (rows : List EdgeRow) (es : List Edge) → map (seen classes) rows ≡ es → length rows ≡ length es
rows_length classes rows es e = sym (length-map rows (seen classes)) ∙ ap length e

pub row_named : (n : ℕ) (rows : List EdgeRow) (k : ℕ) (row : EdgeRow) → All (NamesBelow n) rows → k < length rows → slice_get rows k ≡ Some row → row.class < n
row_named n rows k row h l e = subst (NamesBelow n) (get_or_from_slice_get rows k row row e) (h k row l)

pub edge_found : (classes : List (List (ℕ × ℕ))) (rows : List EdgeRow) (k : ℕ) (row : EdgeRow) (class : List (ℕ × ℕ)) (es : List Edge) → map (seen classes) rows ≡ es → k < length rows → slice_get rows k ≡ Some row → slice_get classes row.class ≡ Some class → slice_get es k ≡ Some (record { class = class; to = row.to })
edge_found classes rows k row class es e l er ec =
    let x : Edge = record { class = class; to = row.to } in
    let at : get_or (map (seen classes) rows) k x ≡ x = get_or-map (seen classes) rows k row x l ∙ ap (seen classes) (get_or_from_slice_get rows k row row er) ∙ ap (λ c. record { class = c; to = row.to }) (get_or_from_slice_get classes row.class class [] ec) in
    subst (λ ys. slice_get ys k ≡ Some x) e (slice_get_read (map (seen classes) rows) (length rows) k x (sym (length-map rows (seen classes))) l (sym at))

-- what a draft has
counted : {T : Type 0} (n : ℕ) (xs : List (Leaving T)) → length (grouped n xs) ≡ n
counted n xs = length-map-range_with_len (arcs_from xs) 0 n

draft_edges : (start : Option ℕ) (finals : List Bool) (classes : List (List (ℕ × ℕ))) (es : List (Leaving EdgeRow)) (ms : List (Leaving ℕ)) (ks : List (Leaving Call)) (a : ℕ) → All (LeavesBelow (length finals)) es → edges_of (draft_of start finals classes es ms ks) a ≡ map (seen classes) (arcs_from es a)
draft_edges start finals classes es ms ks a h = listed_edges start finals classes (grouped (length finals) es) (grouped (length finals) ms) (grouped (length finals) ks) a (counted (length finals) es) ∙ ap (map (seen classes)) (grouped_at (length finals) es a h)

draft_moves : (start : Option ℕ) (finals : List Bool) (classes : List (List (ℕ × ℕ))) (es : List (Leaving EdgeRow)) (ms : List (Leaving ℕ)) (ks : List (Leaving Call)) (a : ℕ) → All (LeavesBelow (length finals)) ms → moves_of (draft_of start finals classes es ms ks) a ≡ arcs_from ms a
draft_moves start finals classes es ms ks a h = moves_are start finals (edge_lists classes (grouped (length finals) es)) (grouped (length finals) ms) (grouped (length finals) ks) a (counted (length finals) ms) ∙ grouped_at (length finals) ms a h

draft_calls : (start : Option ℕ) (finals : List Bool) (classes : List (List (ℕ × ℕ))) (es : List (Leaving EdgeRow)) (ms : List (Leaving ℕ)) (ks : List (Leaving Call)) (a : ℕ) → All (LeavesBelow (length finals)) ks → calls_of (draft_of start finals classes es ms ks) a ≡ arcs_from ks a
draft_calls start finals classes es ms ks a h = calls_are start finals (edge_lists classes (grouped (length finals) es)) (grouped (length finals) ms) (grouped (length finals) ks) a (counted (length finals) ks) ∙ grouped_at (length finals) ks a h

draft_final : (start : Option ℕ) (finals : List Bool) (classes : List (List (ℕ × ℕ))) (es : List (Leaving EdgeRow)) (ms : List (Leaving ℕ)) (ks : List (Leaving Call)) (a : ℕ) → final_at (draft_of start finals classes es ms ks) a ≡ get_or finals a false
draft_final start finals classes es ms ks a = final_is start finals (edge_lists classes (grouped (length finals) es)) (grouped (length finals) ms) (grouped (length finals) ks) a

pub draft_states : (start : Option ℕ) (finals : List Bool) (classes : List (List (ℕ × ℕ))) (es : List (Leaving EdgeRow)) (ms : List (Leaving ℕ)) (ks : List (Leaving Call)) → states (draft_of start finals classes es ms ks) ≡ length finals
draft_states start finals classes es ms ks = states_are start finals (edge_lists classes (grouped (length finals) es)) (grouped (length finals) ms) (grouped (length finals) ks)

pub drafted_states : (start : Option ℕ) (finals : List Bool) (classes : List (List (ℕ × ℕ))) (es : List (Leaving EdgeRow)) (ms : List (Leaving ℕ)) (ks : List (Leaving Call)) (n : Graph) → draft_of start finals classes es ms ks ≡ n → states n ≡ length finals
drafted_states start finals classes es ms ks n e = sym (ap states e) ∙ draft_states start finals classes es ms ks

-- the arcs from a state are among all
arcs_all : {T : Type 0} (P : T → Type 0) (xs : List (Leaving T)) (a : ℕ) → All (λ x. P x.arc) xs → All P (arcs_from xs a)
arcs_all P xs a h = All-map P (λ x. x.arc) (filter (λ x. nat_eq x.from a) xs) (All-filter (λ x. nat_eq x.from a) (λ x. P x.arc) xs h)

one_more : {X : Type 0} (P : X → Type 0) (xs : List X) (x : X) → All P xs → P x → All P (xs ++ x ∷ [])
one_more P xs x h p = All-append P xs (x ∷ []) h one
  where
    one : All P (x ∷ [])
    one zero d l = p
    one (suc k) d l = absurd (omega (arith, l))

-- rows whose classes keep their numbers
rows_kept : (old new : List (List (ℕ × ℕ))) (rows : List EdgeRow) → KeepsNumbers old new → All (NamesBelow (length old)) rows → map (seen new) rows ≡ map (seen old) rows
rows_kept old new [] keeps h = refl
rows_kept old new (row ∷ rows) keeps h =
    ap (λ c. record { class = c; to = row.to } ∷ map (seen new) rows) (keeps.same row.class (h 0 row (omega arith)))
    ∙ ap (λ es. seen old row ∷ es) (rows_kept old new rows keeps (λ k d l. h (suc k) d (omega (arith, l))))

lists_kept : (old new : List (List (ℕ × ℕ))) (es : List (Leaving EdgeRow)) (ns : List ℕ) → KeepsNumbers old new → All (λ x. NamesBelow (length old) x.arc) es → edge_lists new (map (arcs_from es) ns) ≡ edge_lists old (map (arcs_from es) ns)
lists_kept old new es [] keeps h = refl
lists_kept old new es (n ∷ ns) keeps h =
    ap (λ r. r ∷ edge_lists new (map (arcs_from es) ns)) (rows_kept old new (arcs_from es n) keeps (arcs_all (NamesBelow (length old)) es n h))
    ∙ ap (λ r. map (seen old) (arcs_from es n) ∷ r) (lists_kept old new es ns keeps h)

-- a draft is the same over a table that has more classes
pub draft_kept : (start : Option ℕ) (finals : List Bool) (old new : List (List (ℕ × ℕ))) (es : List (Leaving EdgeRow)) (ms : List (Leaving ℕ)) (ks : List (Leaving Call)) → KeepsNumbers old new → All (λ x. NamesBelow (length old) x.arc) es → draft_of start finals new es ms ks ≡ draft_of start finals old es ms ks
draft_kept start finals old new es ms ks keeps h = ap (λ l. graph_of start finals l (grouped (length finals) ms) (grouped (length finals) ks)) (lists_kept old new es (range_with_len 0 (length finals)) keeps h)

pub named_kept : (old new : List (List (ℕ × ℕ))) (es : List (Leaving EdgeRow)) → KeepsNumbers old new → All (λ x. NamesBelow (length old) x.arc) es → All (λ x. NamesBelow (length new) x.arc) es
named_kept old new es keeps h k d l = let below = h k d l in let long = keeps.long in omega (arith, below, long)

pub drafted_kept : (n : ℕ) (start : Option ℕ) (entered entered' : List ℕ) (old new : List (List (ℕ × ℕ))) (es : List (Leaving EdgeRow)) (ms : List (Leaving ℕ)) (ks : List (Leaving Call)) → IsDrafted n start entered old es ms ks → length entered' ≡ length entered → KeepsNumbers old new → IsDrafted n start entered' new es ms ks
drafted_kept n start entered entered' old new es ms ks h len keeps = record {
  few = h.few;
  begins = h.begins;
  entries = len ∙ h.entries;
  edges = h.edges;
  edges_to = h.edges_to;
  named = named_kept old new es keeps h.named;
  moves = h.moves;
  moves_to = h.moves_to;
  calls = h.calls;
  calls_to = h.calls_to;
}

-- a class that is there, and one more
pub keeps_all : (classes : List (List (ℕ × ℕ))) → KeepsNumbers classes classes
keeps_all classes = record { long = omega arith; same = λ k l. refl }

pub keeps_more : (classes : List (List (ℕ × ℕ))) (class : List (ℕ × ℕ)) → KeepsNumbers classes (classes ++ class ∷ [])
keeps_more classes class = record { long = rw length-append (omega arith); same = λ k l. get_or_append_left classes (class ∷ []) [] k l }

pub has_last : (classes : List (List (ℕ × ℕ))) (class : List (ℕ × ℕ)) (n : ℕ) → n ≡ length classes → HasNumber (classes ++ class ∷ []) n class
has_last classes class n e = record { below = rw (length-append, e) (omega arith); is = rw e (get_or-append_seam classes class [] []) }

-- one state more
false_more : (xs : List Bool) (a : ℕ) → get_or (xs ++ false ∷ []) a false ≡ get_or xs a false
false_more [] zero = refl
false_more [] (suc a) = refl
false_more (x ∷ xs) zero = refl
false_more (x ∷ xs) (suc a) = false_more xs a

all_more : {T : Type 0} (n m : ℕ) (xs : List (Leaving T)) → n ≤ m → All (LeavesBelow n) xs → All (LeavesBelow m) xs
all_more n m xs le h k d l = let below = h k d l in omega (arith, below, le)

begins_more : (n m : ℕ) (start : Option ℕ) → n ≤ m → IfSome start (λ a. a < n) → IfSome start (λ a. a < m)
begins_more n m None le h = tt
begins_more n m (Some a) le h = omega (arith, h, le)

pub state_drafted : (n : ℕ) (start : Option ℕ) (entered entered' : List ℕ) (classes : List (List (ℕ × ℕ))) (es : List (Leaving EdgeRow)) (ms : List (Leaving ℕ)) (ks : List (Leaving Call)) → IsDrafted n start entered classes es ms ks → n < 2 ^ 32 - 1 → length entered' ≡ suc (length entered) → IsDrafted (suc n) start entered' classes es ms ks
state_drafted n start entered entered' classes es ms ks h few len = record {
  few = omega (arith, few);
  begins = begins_more n (suc n) start (omega arith) h.begins;
  entries = len ∙ ap suc h.entries;
  edges = all_more n (suc n) es (omega arith) h.edges;
  edges_to = λ k d l. let below = h.edges_to k d l in omega (arith, below);
  named = h.named;
  moves = all_more n (suc n) ms (omega arith) h.moves;
  moves_to = λ k d l. let below = h.moves_to k d l in omega (arith, below);
  calls = all_more n (suc n) ks (omega arith) h.calls;
  calls_to = λ k d l. let below = h.calls_to k d l in omega (arith, below);
}

pub state_added : (start : Option ℕ) (finals : List Bool) (entered : List ℕ) (classes : List (List (ℕ × ℕ))) (es : List (Leaving EdgeRow)) (ms : List (Leaving ℕ)) (ks : List (Leaving Call)) → IsDrafted (length finals) start entered classes es ms ks → AddsState (draft_of start finals classes es ms ks) (draft_of start (finals ++ false ∷ []) classes es ms ks)
state_added start finals entered classes es ms ks h =
    let longer : length (finals ++ false ∷ []) ≡ suc (length finals) = length-append finals (false ∷ []) ∙ omega arith in
    let le : length finals ≤ length (finals ++ false ∷ []) = omega (arith, longer) in
    record {
      states = draft_states start (finals ++ false ∷ []) classes es ms ks ∙ longer ∙ ap suc (sym (draft_states start finals classes es ms ks));
      start = refl;
      finals = λ i. draft_final start (finals ++ false ∷ []) classes es ms ks i ∙ false_more finals i ∙ sym (draft_final start finals classes es ms ks i);
      edges = λ i. draft_edges start (finals ++ false ∷ []) classes es ms ks i (all_more (length finals) _ es le h.edges) ∙ sym (draft_edges start finals classes es ms ks i h.edges);
      moves = λ i. draft_moves start (finals ++ false ∷ []) classes es ms ks i (all_more (length finals) _ ms le h.moves) ∙ sym (draft_moves start finals classes es ms ks i h.moves);
      calls = λ i. draft_calls start (finals ++ false ∷ []) classes es ms ks i (all_more (length finals) _ ks le h.calls) ∙ sym (draft_calls start finals classes es ms ks i h.calls);
    }

-- states stay as arcs are added
states_kept : (start : Option ℕ) (finals : List Bool) (classes classes' : List (List (ℕ × ℕ))) (es es' : List (Leaving EdgeRow)) (ms ms' : List (Leaving ℕ)) (ks ks' : List (Leaving Call)) → KeepsStates (draft_of start finals classes es ms ks) (draft_of start finals classes' es' ms' ks')
states_kept start finals classes classes' es es' ms ms' ks ks' = record {
  states = draft_states start finals classes' es' ms' ks' ∙ sym (draft_states start finals classes es ms ks);
  start = refl;
  finals = λ i. draft_final start finals classes' es' ms' ks' i ∙ sym (draft_final start finals classes es ms ks i);
}

-- other arcs over the same states and classes
arcs_drafted : (n : ℕ) (start : Option ℕ) (entered : List ℕ) (classes : List (List (ℕ × ℕ))) (es es' : List (Leaving EdgeRow)) (ms ms' : List (Leaving ℕ)) (ks ks' : List (Leaving Call)) → IsDrafted n start entered classes es ms ks → All (LeavesBelow n) es' × All (λ x. x.arc.to < n) es' × All (λ x. NamesBelow (length classes) x.arc) es' → All (LeavesBelow n) ms' × All (λ x. x.arc < n) ms' → All (LeavesBelow n) ks' × All (λ x. x.arc.to < n) ks' → IsDrafted n start entered classes es' ms' ks'
arcs_drafted n start entered classes es es' ms ms' ks ks' h edges moves calls = record {
  few = h.few;
  begins = h.begins;
  entries = h.entries;
  edges = edges.0;
  edges_to = edges.1;
  named = edges.2;
  moves = moves.0;
  moves_to = moves.1;
  calls = calls.0;
  calls_to = calls.1;
}

-- one edge more
pub edge_drafted : (n : ℕ) (start : Option ℕ) (entered : List ℕ) (classes : List (List (ℕ × ℕ))) (es : List (Leaving EdgeRow)) (ms : List (Leaving ℕ)) (ks : List (Leaving Call)) (a b number : ℕ) → IsDrafted n start entered classes es ms ks → a < n → b < n → number < length classes → IsDrafted n start entered classes (es ++ record { from = a; arc = record { class = number; to = b } } ∷ []) ms ks
edge_drafted n start entered classes es ms ks a b number h from to below = arcs_drafted n start entered classes es (es ++ record { from = a; arc = record { class = number; to = b } } ∷ []) ms ms ks ks h (one_more (LeavesBelow n) es _ h.edges from, one_more (λ x. x.arc.to < n) es _ h.edges_to to, one_more (λ x. NamesBelow (length classes) x.arc) es _ h.named below) (h.moves, h.moves_to) (h.calls, h.calls_to)

pub edge_added : (start : Option ℕ) (finals : List Bool) (entered : List ℕ) (old new : List (List (ℕ × ℕ))) (es : List (Leaving EdgeRow)) (ms : List (Leaving ℕ)) (ks : List (Leaving Call)) (a b number : ℕ) (class : List (ℕ × ℕ)) → IsDrafted (length finals) start entered old es ms ks → a < length finals → KeepsNumbers old new → HasNumber new number class → AddsEdge (draft_of start finals old es ms ks) (draft_of start finals new (es ++ record { from = a; arc = record { class = number; to = b } } ∷ []) ms ks) a (record { class = class; to = b })
edge_added start finals entered old new es ms ks a b number class h l keeps has = record {
  keeps = states_kept start finals old new es (es ++ x ∷ []) ms ms ks ks;
  edges = more a ∙ ap (map (seen new)) (from_here es x a refl) ∙ map-append (seen new) (arcs_from es a) (x.arc ∷ []) ∙ ap (λ ys. ys ++ seen new x.arc ∷ []) (before a) ∙ ap (λ c. edges_of (draft_of start finals old es ms ks) a ++ record { class = c; to = b } ∷ []) has.is;
  others = λ i ne. more i ∙ ap (map (seen new)) (from_there es x i (λ e. ne (sym e))) ∙ before i;
  moves = λ i. draft_moves start finals new (es ++ x ∷ []) ms ks i h.moves ∙ sym (draft_moves start finals old es ms ks i h.moves);
  calls = λ i. draft_calls start finals new (es ++ x ∷ []) ms ks i h.calls ∙ sym (draft_calls start finals old es ms ks i h.calls);
}
  where
    x : Leaving EdgeRow
    x = record { from = a; arc = record { class = number; to = b } }

    more : (i : ℕ) → edges_of (draft_of start finals new (es ++ x ∷ []) ms ks) i ≡ map (seen new) (arcs_from (es ++ x ∷ []) i)
    more i = draft_edges start finals new (es ++ x ∷ []) ms ks i (one_more (LeavesBelow (length finals)) es x h.edges l)

    before : (i : ℕ) → map (seen new) (arcs_from es i) ≡ edges_of (draft_of start finals old es ms ks) i
    before i = rows_kept old new (arcs_from es i) keeps (arcs_all (NamesBelow (length old)) es i h.named) ∙ sym (draft_edges start finals old es ms ks i h.edges)

-- one move more
pub move_drafted : (n : ℕ) (start : Option ℕ) (entered : List ℕ) (classes : List (List (ℕ × ℕ))) (es : List (Leaving EdgeRow)) (ms : List (Leaving ℕ)) (ks : List (Leaving Call)) (a b : ℕ) → IsDrafted n start entered classes es ms ks → a < n → b < n → IsDrafted n start entered classes es (ms ++ record { from = a; arc = b } ∷ []) ks
move_drafted n start entered classes es ms ks a b h from to = arcs_drafted n start entered classes es es ms (ms ++ record { from = a; arc = b } ∷ []) ks ks h (h.edges, h.edges_to, h.named) (one_more (LeavesBelow n) ms _ h.moves from, one_more (λ x. x.arc < n) ms _ h.moves_to to) (h.calls, h.calls_to)

pub move_added : (start : Option ℕ) (finals : List Bool) (entered : List ℕ) (classes : List (List (ℕ × ℕ))) (es : List (Leaving EdgeRow)) (ms : List (Leaving ℕ)) (ks : List (Leaving Call)) (a b : ℕ) → IsDrafted (length finals) start entered classes es ms ks → a < length finals → AddsMove (draft_of start finals classes es ms ks) (draft_of start finals classes es (ms ++ record { from = a; arc = b } ∷ []) ks) a b
move_added start finals entered classes es ms ks a b h l = record {
  keeps = states_kept start finals classes classes es es ms (ms ++ x ∷ []) ks ks;
  edges = λ i. draft_edges start finals classes es (ms ++ x ∷ []) ks i h.edges ∙ sym (draft_edges start finals classes es ms ks i h.edges);
  moves = more a ∙ from_here ms x a refl ∙ ap (λ ys. ys ++ b ∷ []) (sym (before a));
  others = λ i ne. more i ∙ from_there ms x i (λ e. ne (sym e)) ∙ sym (before i);
  calls = λ i. draft_calls start finals classes es (ms ++ x ∷ []) ks i h.calls ∙ sym (draft_calls start finals classes es ms ks i h.calls);
}
  where
    x : Leaving ℕ
    x = record { from = a; arc = b }

    more : (i : ℕ) → moves_of (draft_of start finals classes es (ms ++ x ∷ []) ks) i ≡ arcs_from (ms ++ x ∷ []) i
    more i = draft_moves start finals classes es (ms ++ x ∷ []) ks i (one_more (LeavesBelow (length finals)) ms x h.moves l)

    before : (i : ℕ) → moves_of (draft_of start finals classes es ms ks) i ≡ arcs_from ms i
    before i = draft_moves start finals classes es ms ks i h.moves

-- one call more
pub call_drafted : (n : ℕ) (start : Option ℕ) (entered : List ℕ) (classes : List (List (ℕ × ℕ))) (es : List (Leaving EdgeRow)) (ms : List (Leaving ℕ)) (ks : List (Leaving Call)) (a : ℕ) (k : Call) → IsDrafted n start entered classes es ms ks → a < n → k.to < n → IsDrafted n start entered classes es ms (ks ++ record { from = a; arc = k } ∷ [])
call_drafted n start entered classes es ms ks a k h from to = arcs_drafted n start entered classes es es ms ms ks (ks ++ record { from = a; arc = k } ∷ []) h (h.edges, h.edges_to, h.named) (h.moves, h.moves_to) (one_more (LeavesBelow n) ks _ h.calls from, one_more (λ x. x.arc.to < n) ks _ h.calls_to to)

pub call_added : (start : Option ℕ) (finals : List Bool) (entered : List ℕ) (classes : List (List (ℕ × ℕ))) (es : List (Leaving EdgeRow)) (ms : List (Leaving ℕ)) (ks : List (Leaving Call)) (a : ℕ) (k : Call) → IsDrafted (length finals) start entered classes es ms ks → a < length finals → AddsCall (draft_of start finals classes es ms ks) (draft_of start finals classes es ms (ks ++ record { from = a; arc = k } ∷ [])) a k
call_added start finals entered classes es ms ks a k h l = record {
  keeps = states_kept start finals classes classes es es ms ms ks (ks ++ x ∷ []);
  edges = λ i. draft_edges start finals classes es ms (ks ++ x ∷ []) i h.edges ∙ sym (draft_edges start finals classes es ms ks i h.edges);
  moves = λ i. draft_moves start finals classes es ms (ks ++ x ∷ []) i h.moves ∙ sym (draft_moves start finals classes es ms ks i h.moves);
  calls = more a ∙ from_here ks x a refl ∙ ap (λ ys. ys ++ k ∷ []) (sym (before a));
  others = λ i ne. more i ∙ from_there ks x i (λ e. ne (sym e)) ∙ sym (before i);
}
  where
    x : Leaving Call
    x = record { from = a; arc = k }

    more : (i : ℕ) → calls_of (draft_of start finals classes es ms (ks ++ x ∷ [])) i ≡ arcs_from (ks ++ x ∷ []) i
    more i = draft_calls start finals classes es ms (ks ++ x ∷ []) i (one_more (LeavesBelow (length finals)) ks x h.calls l)

    before : (i : ℕ) → calls_of (draft_of start finals classes es ms ks) i ≡ arcs_from ks i
    before i = draft_calls start finals classes es ms ks i h.calls

-- one final state more
pub final_set : (start : Option ℕ) (finals : List Bool) (entered : List ℕ) (classes : List (List (ℕ × ℕ))) (es : List (Leaving EdgeRow)) (ms : List (Leaving ℕ)) (ks : List (Leaving Call)) (a : ℕ) → IsDrafted (length finals) start entered classes es ms ks → a < length finals → SetsFinal (draft_of start finals classes es ms ks) (draft_of start (set finals a true) classes es ms ks) a
final_set start finals entered classes es ms ks a h l = record {
  states = draft_states start finals' classes es ms ks ∙ len ∙ sym (draft_states start finals classes es ms ks);
  start = refl;
  final = draft_final start finals' classes es ms ks a ∙ get_or-set_same finals a true false l;
  others = λ i ne. draft_final start finals' classes es ms ks i ∙ get_or-set_other finals a i true false ne ∙ sym (draft_final start finals classes es ms ks i);
  edges = λ i. draft_edges start finals' classes es ms ks i (rw len h.edges) ∙ sym (draft_edges start finals classes es ms ks i h.edges);
  moves = λ i. draft_moves start finals' classes es ms ks i (rw len h.moves) ∙ sym (draft_moves start finals classes es ms ks i h.moves);
  calls = λ i. draft_calls start finals' classes es ms ks i (rw len h.calls) ∙ sym (draft_calls start finals classes es ms ks i h.calls);
}
  where
    finals' : List Bool
    finals' = set finals a true

    len : length finals' ≡ length finals
    len = length-set finals a true

-- a draft by its states is laid out
pub laid_out : (start : Option ℕ) (finals : List Bool) (entered : List ℕ) (classes : List (List (ℕ × ℕ))) (es : List (Leaving EdgeRow)) (ms : List (Leaving ℕ)) (ks : List (Leaving Call)) → IsDrafted (length finals) start entered classes es ms ks → IsLaidOut start finals classes (grouped (length finals) es) (grouped (length finals) ms) (grouped (length finals) ks)
laid_out start finals entered classes es ms ks h = record {
  edges = counted (length finals) es;
  moves = counted (length finals) ms;
  calls = counted (length finals) ks;
  named = λ a. rw (grouped_at (length finals) es a h.edges) (arcs_all (NamesBelow (length classes)) es a h.named);
  sound = record {
    few = rw (draft_states start finals classes es ms ks) h.few;
    start = rw (draft_states start finals classes es ms ks) h.begins;
    edges = λ a. rw (draft_states start finals classes es ms ks, draft_edges start finals classes es ms ks a h.edges) (All-map (λ e. e.to < length finals) (seen classes) (arcs_from es a) (arcs_all (λ row. row.to < length finals) es a h.edges_to));
    moves = λ a. rw (draft_states start finals classes es ms ks, draft_moves start finals classes es ms ks a h.moves) (arcs_all (λ b. b < length finals) ms a h.moves_to);
    calls = λ a. rw (draft_states start finals classes es ms ks, draft_calls start finals classes es ms ks a h.calls) (arcs_all (λ k. k.to < length finals) ks a h.calls_to);
  };
}

-- the start that is set
pub start_drafted : (n : ℕ) (start : Option ℕ) (entered : List ℕ) (classes : List (List (ℕ × ℕ))) (es : List (Leaving EdgeRow)) (ms : List (Leaving ℕ)) (ks : List (Leaving Call)) (a : ℕ) → IsDrafted n start entered classes es ms ks → a < n → IsDrafted n (Some a) entered classes es ms ks
start_drafted n start entered classes es ms ks a h l = record {
  few = h.few;
  begins = l;
  entries = h.entries;
  edges = h.edges;
  edges_to = h.edges_to;
  named = h.named;
  moves = h.moves;
  moves_to = h.moves_to;
  calls = h.calls;
  calls_to = h.calls_to;
}

pub finished : (start : Option ℕ) (finals : List Bool) (classes : List (List (ℕ × ℕ))) (es : List (Leaving EdgeRow)) (ms : List (Leaving ℕ)) (ks : List (Leaving Call)) (rows : List (List EdgeRow)) (moves : List (List ℕ)) (calls : List (List Call)) (n : Graph) → rows ≡ grouped (length finals) es → moves ≡ grouped (length finals) ms → calls ≡ grouped (length finals) ks → draft_of start finals classes es ms ks ≡ n → graph_of start finals (edge_lists classes rows) moves calls ≡ n
finished start finals classes es ms ks rows moves calls n e f g h = rw (e, f, g) h

-- what holds anyway holds on an error
pub on_err : {T E P : Type 0} (r : Result T E) → P → OnErr r P
on_err (Ok x) p = tt
on_err (Err e) p = p

-- each call as the code makes it: by what the list holds then
below_states : (start : Option ℕ) (finals : List Bool) (classes : List (List (ℕ × ℕ))) (es : List (Leaving EdgeRow)) (ms : List (Leaving ℕ)) (ks : List (Leaving Call)) (n : Graph) (a : ℕ) → draft_of start finals classes es ms ks ≡ n → a < states n → a < length finals
below_states start finals classes es ms ks n a e l = let same = drafted_states start finals classes es ms ks n e in omega (arith, same, l)

pub state_kept : (start : Option ℕ) (finals : List Bool) (entered : List ℕ) (classes : List (List (ℕ × ℕ))) (es : List (Leaving EdgeRow)) (ms : List (Leaving ℕ)) (ks : List (Leaving Call)) (n : Graph) (finals' : List Bool) (room entered' : List ℕ) → IsDrafted (length finals) start entered classes es ms ks → draft_of start finals classes es ms ks ≡ n → states n < 2 ^ 32 - 1 → finals' ≡ finals ++ false ∷ [] → room ≡ entered → entered' ≡ room ++ 0 ∷ [] → IsDrafted (length finals') start entered' classes es ms ks
state_kept start finals entered classes es ms ks n finals' room entered' h e few f g k =
    let longer : length finals' ≡ suc (length finals) = ap length f ∙ length-append finals (false ∷ []) ∙ omega arith in
    let longer' : length entered' ≡ suc (length entered) = ap length k ∙ length-append room (0 ∷ []) ∙ ap (λ m. m + 1) (ap length g) ∙ omega arith in
    let same = drafted_states start finals classes es ms ks n e in
    subst (λ m. IsDrafted m start entered' classes es ms ks) (sym longer) (state_drafted (length finals) start entered entered' classes es ms ks h (omega (arith, few, same)) longer')

pub state_pushed : (start : Option ℕ) (finals : List Bool) (entered : List ℕ) (classes : List (List (ℕ × ℕ))) (es : List (Leaving EdgeRow)) (ms : List (Leaving ℕ)) (ks : List (Leaving Call)) (n : Graph) (finals' : List Bool) → IsDrafted (length finals) start entered classes es ms ks → draft_of start finals classes es ms ks ≡ n → finals' ≡ finals ++ false ∷ [] → AddsState n (draft_of start finals' classes es ms ks)
state_pushed start finals entered classes es ms ks n finals' h e f = subst (λ m. AddsState m (draft_of start finals' classes es ms ks)) e (subst (λ fs. AddsState (draft_of start finals classes es ms ks) (draft_of start fs classes es ms ks)) (sym f) (state_added start finals entered classes es ms ks h))

pub move_kept : (start : Option ℕ) (finals : List Bool) (entered : List ℕ) (classes : List (List (ℕ × ℕ))) (es : List (Leaving EdgeRow)) (ms : List (Leaving ℕ)) (ks : List (Leaving Call)) (n : Graph) (a b : ℕ) (ms' : List (Leaving ℕ)) → IsDrafted (length finals) start entered classes es ms ks → draft_of start finals classes es ms ks ≡ n → a < states n → b < states n → ms' ≡ ms ++ record { from = a; arc = b } ∷ [] → IsDrafted (length finals) start entered classes es ms' ks
move_kept start finals entered classes es ms ks n a b ms' h e l m f = subst (λ xs. IsDrafted (length finals) start entered classes es xs ks) (sym f) (move_drafted (length finals) start entered classes es ms ks a b h (below_states start finals classes es ms ks n a e l) (below_states start finals classes es ms ks n b e m))

pub move_pushed : (start : Option ℕ) (finals : List Bool) (entered : List ℕ) (classes : List (List (ℕ × ℕ))) (es : List (Leaving EdgeRow)) (ms : List (Leaving ℕ)) (ks : List (Leaving Call)) (n : Graph) (a b : ℕ) (ms' : List (Leaving ℕ)) → IsDrafted (length finals) start entered classes es ms ks → draft_of start finals classes es ms ks ≡ n → a < states n → ms' ≡ ms ++ record { from = a; arc = b } ∷ [] → AddsMove n (draft_of start finals classes es ms' ks) a b
move_pushed start finals entered classes es ms ks n a b ms' h e l f = subst (λ m. AddsMove m (draft_of start finals classes es ms' ks) a b) e (subst (λ xs. AddsMove (draft_of start finals classes es ms ks) (draft_of start finals classes es xs ks) a b) (sym f) (move_added start finals entered classes es ms ks a b h (below_states start finals classes es ms ks n a e l)))

pub call_kept : (start : Option ℕ) (finals : List Bool) (entered : List ℕ) (classes : List (List (ℕ × ℕ))) (es : List (Leaving EdgeRow)) (ms : List (Leaving ℕ)) (ks : List (Leaving Call)) (n : Graph) (a : ℕ) (k : Call) (ks' : List (Leaving Call)) → IsDrafted (length finals) start entered classes es ms ks → draft_of start finals classes es ms ks ≡ n → a < states n → k.to < states n → ks' ≡ ks ++ record { from = a; arc = k } ∷ [] → IsDrafted (length finals) start entered classes es ms ks'
call_kept start finals entered classes es ms ks n a k ks' h e l m f = subst (λ xs. IsDrafted (length finals) start entered classes es ms xs) (sym f) (call_drafted (length finals) start entered classes es ms ks a k h (below_states start finals classes es ms ks n a e l) (below_states start finals classes es ms ks n k.to e m))

pub call_pushed : (start : Option ℕ) (finals : List Bool) (entered : List ℕ) (classes : List (List (ℕ × ℕ))) (es : List (Leaving EdgeRow)) (ms : List (Leaving ℕ)) (ks : List (Leaving Call)) (n : Graph) (a : ℕ) (k : Call) (ks' : List (Leaving Call)) → IsDrafted (length finals) start entered classes es ms ks → draft_of start finals classes es ms ks ≡ n → a < states n → ks' ≡ ks ++ record { from = a; arc = k } ∷ [] → AddsCall n (draft_of start finals classes es ms ks') a k
call_pushed start finals entered classes es ms ks n a k ks' h e l f = subst (λ m. AddsCall m (draft_of start finals classes es ms ks') a k) e (subst (λ xs. AddsCall (draft_of start finals classes es ms ks) (draft_of start finals classes es ms xs) a k) (sym f) (call_added start finals entered classes es ms ks a k h (below_states start finals classes es ms ks n a e l)))

pub edge_kept : (start : Option ℕ) (finals : List Bool) (entered : List ℕ) (classes : List (List (ℕ × ℕ))) (es : List (Leaving EdgeRow)) (ms : List (Leaving ℕ)) (ks : List (Leaving Call)) (new : List (List (ℕ × ℕ))) (n : Graph) (a b number : ℕ) (class : List (ℕ × ℕ)) (entered' : List ℕ) (es' : List (Leaving EdgeRow)) → IsDrafted (length finals) start entered classes es ms ks → draft_of start finals classes es ms ks ≡ n → a < states n → b < states n → KeepsNumbers classes new → HasNumber new number class → length entered' ≡ length entered → es' ≡ es ++ record { from = a; arc = record { class = number; to = b } } ∷ [] → IsDrafted (length finals) start entered' new es' ms ks
edge_kept start finals entered classes es ms ks new n a b number class entered' es' h e l m keeps has len f = subst (λ xs. IsDrafted (length finals) start entered' new xs ms ks) (sym f) (edge_drafted (length finals) start entered' new es ms ks a b number (drafted_kept (length finals) start entered entered' classes new es ms ks h len keeps) (below_states start finals classes es ms ks n a e l) (below_states start finals classes es ms ks n b e m) has.below)

pub edge_pushed : (start : Option ℕ) (finals : List Bool) (entered : List ℕ) (classes : List (List (ℕ × ℕ))) (es : List (Leaving EdgeRow)) (ms : List (Leaving ℕ)) (ks : List (Leaving Call)) (new : List (List (ℕ × ℕ))) (n : Graph) (a b number : ℕ) (class : List (ℕ × ℕ)) (es' : List (Leaving EdgeRow)) → IsDrafted (length finals) start entered classes es ms ks → draft_of start finals classes es ms ks ≡ n → a < states n → KeepsNumbers classes new → HasNumber new number class → es' ≡ es ++ record { from = a; arc = record { class = number; to = b } } ∷ [] → AddsEdge n (draft_of start finals new es' ms ks) a (record { class = class; to = b })
edge_pushed start finals entered classes es ms ks new n a b number class es' h e l keeps has f = subst (λ m. AddsEdge m (draft_of start finals new es' ms ks) a (record { class = class; to = b })) e (subst (λ xs. AddsEdge (draft_of start finals classes es ms ks) (draft_of start finals new xs ms ks) a (record { class = class; to = b })) (sym f) (edge_added start finals entered classes new es ms ks a b number class h (below_states start finals classes es ms ks n a e l) keeps has))

pub edge_refused : (start : Option ℕ) (finals : List Bool) (entered : List ℕ) (classes : List (List (ℕ × ℕ))) (es : List (Leaving EdgeRow)) (ms : List (Leaving ℕ)) (ks : List (Leaving Call)) (new : List (List (ℕ × ℕ))) (n : Graph) (es' : List (Leaving EdgeRow)) → IsDrafted (length finals) start entered classes es ms ks → draft_of start finals classes es ms ks ≡ n → KeepsNumbers classes new → es' ≡ es → draft_of start finals new es' ms ks ≡ n
edge_refused start finals entered classes es ms ks new n es' h e keeps f = ap (λ xs. draft_of start finals new xs ms ks) f ∙ draft_kept start finals classes new es ms ks keeps h.named ∙ e
