use Rattle.std.proofs.Common.{◌≡◌, ◌≤◌, ℕ, List, [], length, Bool, false, ◌==◌, Some, None, sym, ◌∙◌, ap, subst}
use Rattle.std.specs.Option.{option_map}
use Rattle.xs_xml_laws.specs.Reads.{Reads}
use Rattle.xs_xml_laws.specs.Scan.{piece_at}
use Rattle.xs_form.specs.Seen.{found, shown_event, shown_found}
use Rattle.xs_form.specs.State.{State, state_of, step, taken}
use Rattle.xs_form.proofs.BareLaws.{run_read, run_shorter}
use Rattle.xs_form.proofs.LengthLaws.{reads_short}
use Rattle.xs_form.proofs.ReadLaws.{IsSoFar, event_is, at_doc, event_named, event_shorter, piece_more, no_piece, no_piece_left, piece_refused, broken_of, rest_shorter, all_read, empty_list, no_empty_list, finished_at, not_finished}
use Rattle.xs_form.proofs.document.read_xml.Goals as goal

pub broken-requires : goal.broken-requires
broken-requires c =
    subst (λ (x : List ℕ). length c.pieces.rest.now ≤ length x) (sym c.as_slice-whole.ensures) (rest_shorter c.args.names.now c.args.doc.now c.pieces.rest.now (state_of c.pieces.reader) c.pieces.invariant)

pub broken-requires-then-not-branch : goal.broken-requires-then-not-branch
broken-requires-then-not-branch c =
    subst (λ (x : List ℕ). length c.pieces.rest.now ≤ length x) (sym c.as_slice-whole.ensures) (rest_shorter c.args.names.now c.args.doc.now c.pieces.rest.now (state_of c.pieces.reader) c.pieces.invariant)

pub returns-in-None-clause-fault : goal.returns-in-None-clause-fault
returns-in-None-clause-fault c =
    let filled : (length c.pieces.rest.now == 0) ≡ false = sym c.is_empty.ensures ∙ c.pieces-test.true in
    let none : None ≡ option_map found (piece_at c.pieces.rest.now) = ap (option_map shown_found) (sym c.in-None.is) ∙ c.in_ok-event_at.ensures in
    broken_of _ _ _ _ c.broken.result c.pieces.invariant (no_piece _ _ _ _ c.pieces.invariant none) (λ e b. no_empty_list _ filled e) (at_doc _ _ _ c.broken.result c.as_slice-whole.ensures c.broken.ensures)

pub pieces-smaller-in-Some : goal.pieces-smaller-in-Some
pieces-smaller-in-Some c = run_shorter c.pieces.rest.now c.in-Some.run'.now c.in-Some.more.now (state_of c.pieces.reader) c.in-Some.ensures

pub pieces-preserved-in-Some : goal.pieces-preserved-in-Some
pieces-preserved-in-Some c =
    let names = c.args.names.now in
    let doc = c.args.doc.now in
    let st = state_of c.pieces.reader in
    subst (λ (x : State). IsSoFar names doc c.in-Some.more.now x) (sym c.in_ok-text.ensures) (run_read names doc c.pieces.rest.now c.in-Some.run'.now c.in-Some.more.now st c.in-Some.ensures c.pieces.invariant)

pub take-requires : goal.take-requires
take-requires c = event_named c.pieces.rest.now c.in-Some-2.more.now (shown_event c.in-Some-2.event) (event_is _ c.in-Some-2.event c.in-Some-2.more _ c.in-Some-2.is c.in_ok-event_at.ensures)

pub returns-then-not-branch-clause-fault : goal.returns-then-not-branch-clause-fault
returns-then-not-branch-clause-fault c =
    let rest = c.pieces.rest.now in
    let st = state_of c.pieces.reader in
    let s = shown_event c.in-Some-2.event in
    let is = event_is _ c.in-Some-2.event c.in-Some-2.more _ c.in-Some-2.is c.in_ok-event_at.ensures in
    let filled : (length rest == 0) ≡ false = sym c.is_empty.ensures ∙ c.pieces-test.true in
    let at = at_doc _ c.args.doc.now rest c.broken-then-not-branch.result c.as_slice-whole.ensures c.broken-then-not-branch.ensures in
    let step_is : taken c.in_ok-take-in-Some-2.field-0 (state_of c.take.new.self) ≡ step c.args.names.now st s = c.in_ok-take-in-Some-2.ensures in
    let refused : None ≡ step c.args.names.now st s = ap (λ (b : Bool). taken b (state_of c.take.new.self)) (sym c.if-not-branch.true) ∙ step_is in
    broken_of _ _ rest st c.broken-then-not-branch.result c.pieces.invariant (piece_refused c.args.names.now c.args.doc.now rest c.in-Some-2.more.now st s c.pieces.invariant is refused) (λ e b. no_empty_list rest filled e) at

pub pieces-smaller : goal.pieces-smaller
pieces-smaller c = event_shorter c.pieces.rest.now c.in-Some-2.more.now (shown_event c.in-Some-2.event) (event_is _ c.in-Some-2.event c.in-Some-2.more _ c.in-Some-2.is c.in_ok-event_at.ensures)

pub pieces-preserved : goal.pieces-preserved
pieces-preserved c =
    let st = state_of c.pieces.reader in
    let s = shown_event c.in-Some-2.event in
    let is = event_is _ c.in-Some-2.event c.in-Some-2.more _ c.in-Some-2.is c.in_ok-event_at.ensures in
    let step_is : taken c.in_ok-take-in-Some-2.field-0 (state_of c.take.new.self) ≡ step c.args.names.now st s = c.in_ok-take-in-Some-2.ensures in
    let to : Some (state_of c.take.new.self) ≡ step c.args.names.now st s = ap (λ (b : Bool). taken b (state_of c.take.new.self)) (sym c.if-not-branch.false) ∙ step_is in
    piece_more c.args.names.now c.args.doc.now c.pieces.rest.now c.in-Some-2.more.now st (state_of c.take.new.self) s c.pieces.invariant is to

pub returns-in-Some-finish-clause-read : goal.returns-in-Some-finish-clause-read
returns-in-Some-finish-clause-read c =
    let names = c.args.names.now in
    let doc = c.args.doc.now in
    let rest = c.pieces.rest.now in
    let st = state_of c.pieces.reader in
    let none : rest ≡ [] = empty_list rest (sym c.is_empty.ensures ∙ c.pieces-test.false) in
    let end = finished_at st.spot st.word c.in-Some-finish.word c.in-Some-finish.ensures in
    let whole : IsSoFar names doc [] st = subst (λ (x : List ℕ). IsSoFar names doc x st) none c.pieces.invariant in
    subst (λ (w : List ℕ). Reads names doc w) end.1 (all_read names doc st whole end.0)

pub returns-in-Some-finish-clause-short : goal.returns-in-Some-finish-clause-short
returns-in-Some-finish-clause-short c = reads_short c.args.names.now c.args.doc.now c.in-Some-finish.word (returns-in-Some-finish-clause-read c)

pub returns-in-None-finish-clause-fault : goal.returns-in-None-finish-clause-fault
returns-in-None-finish-clause-fault c =
    let none : c.pieces.rest.now ≡ [] = empty_list c.pieces.rest.now (sym c.is_empty.ensures ∙ c.pieces-test.false) in
    let st = state_of c.pieces.reader in
    broken_of _ _ _ _ c.broken-in-None-finish.result c.pieces.invariant (no_piece _ _ _ _ c.pieces.invariant (no_piece_left c.pieces.rest.now none)) (λ e b. not_finished st.spot st.word c.in-None-finish.ensures b) (at_doc _ _ _ c.broken-in-None-finish.result c.as_slice-whole.ensures c.broken-in-None-finish.ensures)
