use Rattle.std.proofs.Common.{◌∙◌, Some, sym, refl, map, string_bytes}
use Rattle.xs_io.specs.CallLog.{faults_of}
use Rattle.xs_io.specs.Shelves.{sure_file, sure_faults}
use Rattle.xs_io.specs.Sinks.{mem_bytes, mem_calls}
use Rattle.xs_io.specs.Sources.{sure_rest}
use Rattle.xs_top.specs.Devices.{shelves_of, input_of, output_of, run_of}
use Rattle.xs_c.proofs.Files.{sheet_put, certificate_kept, still, some_is}
use Rattle.xs_c.proofs.running.run_on.Goals as goal

pub returns : goal.returns
returns c = record {
  run = run_of (map string_bytes c.args.words.now) (shelves_of (λ s. Some (sure_file s)) (λ s. sure_faults s) (λ s n. 0) c.add-2.new.self c.run.new.shelf)
      (input_of (λ s. Some (sure_rest s)) (λ s. 0) c.new-input.result c.run.new.input)
      (output_of (λ s. Some (mem_bytes s)) (λ s. faults_of (mem_calls s)) c.new-out.result c.run.new.out)
      (output_of (λ s. Some (mem_bytes s)) (λ s. faults_of (mem_calls s)) c.new-notes.result c.run.new.notes);
  words_are = refl;
  files = sure_file c.add-2.new.self;
  files_are = refl;
  sheet_is = sheet_put _ _ _ _ _ c.in_ok-add-2.ensures.ok c.in_ok-sheet_name.ensures c.in_ok-sheet_bytes.ensures;
  certificate_is = certificate_kept _ _ _ _ _ _ _ _ c.in_ok-add.ensures.ok c.in_ok-certificate_name.ensures c.in_ok-certificate_bytes.ensures c.in_ok-add-2.ensures.ok c.in_ok-sheet_name.ensures;
  sheet_sure = still;
  certificate_sure = still;
  input = some_is _ _ (c.new-input.ensures ∙ c.in_ok-document_bytes.ensures);
  input_sure = still;
  taken_before = some_is _ _ c.new-out.ensures.bytes;
  taken_now = some_is _ _ (sym (c.in_ok-written.ensures ∙ c.taken.ensures));
  noted_before = some_is _ _ c.new-notes.ensures.bytes;
  noted_now = some_is _ _ (sym (c.in_ok-noted.ensures ∙ c.taken-2.ensures));
  told = c.in_ok-outcome.ensures.told;
  complete = c.in_ok-outcome.ensures.complete;
}
