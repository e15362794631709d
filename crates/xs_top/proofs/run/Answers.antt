use Rattle.std.proofs.Common.{◌∙◌, sym, ap, refl, map, string_bytes}
use Rattle.std.specs.Option.{option_map}
use Rattle.xs_talk.specs.declared.outcome.Outcome.TheVariants.{Usage}
use Rattle.xs_words.specs.Meaning.{meant}
use Rattle.xs_top.specs.Asked.{ask_of}
use Rattle.xs_top.specs.Devices.{shelves_of, input_of, output_of, run_of}
use Rattle.xs_top.specs.Ran.{no_command}
use Rattle.xs_top.proofs.Going.{stop_is, usage_told, refused_told, undone_told, answer_told, job_told, job_reads}
use Rattle.xs_top.proofs.Completing.{complete, complete_if}
use Rattle.xs_top.proofs.Taking.{reads_nothing, reads_for}
use Rattle.xs_top.proofs.run.Goals as goal

pub returns-in-None-clause-told : goal.returns-in-None-clause-told
returns-in-None-clause-told g c =
    usage_told _ c.in_ok-none.none Usage c.tell.result c.in_ok-none.ensures (no_command (ap (λ o. option_map ask_of o) (sym c.command_of.ensures.command ∙ ap (λ o. option_map meant o) c.in-None.is)) (record { left = refl; faults = refl }) (record { taken = refl; faults = refl })) c.tell.ensures.told

pub returns-in-Ok-Answer-clause-told : goal.returns-in-Ok-Answer-clause-told
returns-in-Ok-Answer-clause-told g c =
    let begun = rw c.in-Ok-Answer.field-0-is at c.in-Ok-Answer.ensures.begun in
    answer_told _ (ask_of (meant c.in-Some.command)) c.in-Ok-Answer.answer c.as_slice.result.now c.written.result (ap (λ o. option_map ask_of o) (sym c.command_of.ensures.command ∙ ap (λ o. option_map meant o) c.in-Some.is)) begun (record { left = refl; faults = refl }) c.as_slice.ensures c.written.ensures

pub returns-in-Ok-Answer-clause-complete : goal.returns-in-Ok-Answer-clause-complete
returns-in-Ok-Answer-clause-complete g c = complete c.one_word.ensures c.weights_are_exact.ensures.rule c.bytes_agree.ensures.pairs c.bytes_agree.ensures.sheets c.bytes_agree.ensures.outlines c.bytes_agree.ensures.certificates _ c.written.result (returns-in-Ok-Answer-clause-told g c)

pub returns-in-Err-Refused-clause-told : goal.returns-in-Err-Refused-clause-told
returns-in-Err-Refused-clause-told g c =
    let why = stop_is _ c.in-Err-Refused.field-0 c.in-Err-Refused.outcome c.in-Err-Refused.ensures.stop c.in-Err-Refused.field-0-is in
    refused_told
    (run_of (map string_bytes c.args.words.now) (shelves_of g.H.Shelf.files g.H.Shelf.faults g.H.Shelf.name_faults c.args.shelf.now c.begin.new.shelf) (input_of g.S.Source.left g.S.Source.faults c.args.input.now c.args.input.now)
    (output_of g.K.Sink.taken g.K.Sink.faults c.args.out.now c.args.out.now) (output_of g.N.Sink.taken g.N.Sink.faults c.args.notes.now c.tell-in-Err-Refused.new.notes))
    (ask_of (meant c.in-Some.command)) c.in-Err-Refused.outcome c.in_ok-none.none c.tell-in-Err-Refused.result (ap (λ o. option_map ask_of o) (sym c.command_of.ensures.command ∙ ap (λ o. option_map meant o) c.in-Some.is)) why (record { left = refl; faults = refl }) (record { taken = refl; faults = refl }) c.in_ok-none.ensures c.tell-in-Err-Refused.ensures.told

pub returns-in-Err-Refused-clause-complete : goal.returns-in-Err-Refused-clause-complete
returns-in-Err-Refused-clause-complete g c = complete_if c.one_word.ensures c.weights_are_exact.ensures.rule c.bytes_agree.ensures.pairs c.bytes_agree.ensures.sheets c.bytes_agree.ensures.outlines c.bytes_agree.ensures.certificates _ c.tell-in-Err-Refused.result (returns-in-Err-Refused-clause-told g c)

pub returns-in-Ok-clause-told : goal.returns-in-Ok-clause-told
returns-in-Ok-clause-told g c =
    let begun = rw c.in-Ok-By.field-0-is at c.in-Ok-By.ensures.begun in
    job_told _ (ask_of (meant c.in-Some.command)) c.in-Ok-By.two c.in-Ok-By.job c.in-Ok.answer c.as_slice-in-Ok.result.now c.written-in-Ok.result (ap (λ o. option_map ask_of o) (sym c.command_of.ensures.command ∙ ap (λ o. option_map meant o) c.in-Some.is)) begun c.in-Ok.ensures.answer c.as_slice-in-Ok.ensures c.written-in-Ok.ensures

pub returns-in-Ok-clause-complete : goal.returns-in-Ok-clause-complete
returns-in-Ok-clause-complete g c = complete c.one_word.ensures c.weights_are_exact.ensures.rule c.bytes_agree.ensures.pairs c.bytes_agree.ensures.sheets c.bytes_agree.ensures.outlines c.bytes_agree.ensures.certificates _ c.written-in-Ok.result (returns-in-Ok-clause-told g c)

pub returns-in-Err-Refused-answer_of-clause-told : goal.returns-in-Err-Refused-answer_of-clause-told
returns-in-Err-Refused-answer_of-clause-told g c =
    let begun = rw c.in-Ok-By.field-0-is at c.in-Ok-By.ensures.begun in
    undone_told _ (ask_of (meant c.in-Some.command)) c.in-Ok-By.two c.in-Ok-By.job c.in-Err-Refused-answer_of.field-0 c.in-Err-Refused-answer_of.outcome c.names.result.now c.tell-in-Err-Refused-answer_of.result (ap (λ o. option_map ask_of o) (sym c.command_of.ensures.command ∙ ap (λ o. option_map meant o) c.in-Some.is)) begun c.in-Err-Refused-answer_of.ensures.stop c.in-Err-Refused-answer_of.field-0-is
    (record { taken = refl; faults = refl }) c.names.ensures c.tell-in-Err-Refused-answer_of.ensures.told

pub returns-in-Err-Refused-answer_of-clause-complete : goal.returns-in-Err-Refused-answer_of-clause-complete
returns-in-Err-Refused-answer_of-clause-complete g c = complete_if c.one_word.ensures c.weights_are_exact.ensures.rule c.bytes_agree.ensures.pairs c.bytes_agree.ensures.sheets c.bytes_agree.ensures.outlines c.bytes_agree.ensures.certificates _ c.tell-in-Err-Refused-answer_of.result (returns-in-Err-Refused-answer_of-clause-told g c)

pub returns-in_err-room-clause-reads : goal.returns-in_err-room-clause-reads
returns-in_err-room-clause-reads g c = reads_nothing (map string_bytes c.args.words.now) g.S.Source.left g.S.Source.faults c.args.input.now

pub returns-in_err-none-clause-reads : goal.returns-in_err-none-clause-reads
returns-in_err-none-clause-reads g c = reads_nothing (map string_bytes c.args.words.now) g.S.Source.left g.S.Source.faults c.args.input.now

pub returns-in-None-clause-reads : goal.returns-in-None-clause-reads
returns-in-None-clause-reads g c = reads_nothing (map string_bytes c.args.words.now) g.S.Source.left g.S.Source.faults c.args.input.now

pub returns-in-Ok-Answer-clause-reads : goal.returns-in-Ok-Answer-clause-reads
returns-in-Ok-Answer-clause-reads g c = reads_nothing (map string_bytes c.args.words.now) g.S.Source.left g.S.Source.faults c.args.input.now

pub returns-in-Err-Refused-clause-reads : goal.returns-in-Err-Refused-clause-reads
returns-in-Err-Refused-clause-reads g c = reads_nothing (map string_bytes c.args.words.now) g.S.Source.left g.S.Source.faults c.args.input.now

pub returns-in-Err-Memory-clause-reads : goal.returns-in-Err-Memory-clause-reads
returns-in-Err-Memory-clause-reads g c = reads_nothing (map string_bytes c.args.words.now) g.S.Source.left g.S.Source.faults c.args.input.now

pub returns-in-Ok-clause-reads : goal.returns-in-Ok-clause-reads
returns-in-Ok-clause-reads g c =
    let begun = rw c.in-Ok-By.field-0-is at c.in-Ok-By.ensures.begun in
    reads_for (map string_bytes c.args.words.now) (ask_of (meant c.in-Some.command)) (input_of g.S.Source.left g.S.Source.faults c.args.input.now c.answer_of.new.input) (ap (λ o. option_map ask_of o) (sym c.command_of.ensures.command ∙ ap (λ o. option_map meant o) c.in-Some.is)) (job_reads (ask_of (meant c.in-Some.command)) c.in-Ok-By.two c.in-Ok-By.job _ _ begun c.answer_of.ensures.reads)

pub returns-in-Err-Refused-answer_of-clause-reads : goal.returns-in-Err-Refused-answer_of-clause-reads
returns-in-Err-Refused-answer_of-clause-reads g c =
    let begun = rw c.in-Ok-By.field-0-is at c.in-Ok-By.ensures.begun in
    reads_for (map string_bytes c.args.words.now) (ask_of (meant c.in-Some.command)) (input_of g.S.Source.left g.S.Source.faults c.args.input.now c.answer_of.new.input) (ap (λ o. option_map ask_of o) (sym c.command_of.ensures.command ∙ ap (λ o. option_map meant o) c.in-Some.is)) (job_reads (ask_of (meant c.in-Some.command)) c.in-Ok-By.two c.in-Ok-By.job _ _ begun c.answer_of.ensures.reads)

pub returns-clause-reads : goal.returns-clause-reads
returns-clause-reads g c =
    let begun = rw c.in-Ok-By.field-0-is at c.in-Ok-By.ensures.begun in
    reads_for (map string_bytes c.args.words.now) (ask_of (meant c.in-Some.command)) (input_of g.S.Source.left g.S.Source.faults c.args.input.now c.answer_of.new.input) (ap (λ o. option_map ask_of o) (sym c.command_of.ensures.command ∙ ap (λ o. option_map meant o) c.in-Some.is)) (job_reads (ask_of (meant c.in-Some.command)) c.in-Ok-By.two c.in-Ok-By.job _ _ begun c.answer_of.ensures.reads)
