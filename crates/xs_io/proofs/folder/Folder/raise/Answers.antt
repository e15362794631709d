use Rattle.std.proofs.Common.{List, ℕ, refl, arith, sym, ◌∙◌, ap}
use Rattle.std.proofs.Math.Path.{fun_ext}
use Rattle.std.specs.Option.{option_map, option_map_or}
use Rattle.std.specs.declared.option.Option.{Option}
use Rattle.xs_io.specs.declared.folder.File.{File}
use Rattle.xs_io.proofs.Folders.{IsPlace, found, found_within, place_none, write_at, write_away, write_was, write_keeps}
use Rattle.xs_io.specs.CallLog.{one_more}
use Rattle.xs_io.specs.Folder.{is_named}
use Rattle.xs_io.proofs.folder.Folder.raise.Goals as goal

pub index_mut-file-requires : goal.index_mut-file-requires
index_mut-file-requires c = let within = found_within c.args.name.now c.deref.result.now c.in-Some.place (sym c.in-Some.ensures) in omega (arith, within)

pub returns-in-Some-clause-files : goal.returns-in-Some-clause-files
returns-in-Some-clause-files c =
    let place : IsPlace (is_named c.args.name.now) c.args.self.now.files.items c.in-Some.place = found _ _ _ (rw (← c.deref.ensures.value) (sym c.in-Some.ensures)) in
    fun_ext (λ (name : List ℕ). write_keeps c.args.name.now _ _ c.index_mut-file.result.now _ place c.index_mut-file.ensures.value refl (option_map (λ (f : File). f.bytes)) refl name)

pub returns-in-Some-clause-counted : goal.returns-in-Some-clause-counted
returns-in-Some-clause-counted c some =
    let place : IsPlace (is_named c.args.name.now) c.args.self.now.files.items c.in-Some.place = found _ _ _ (rw (← c.deref.ensures.value) (sym c.in-Some.ensures)) in
    let old : File = c.index_mut-file.result.now in
    let new : File = record { name = old.name; bytes = old.bytes; faults = c.saturating_add-file.result } in
    ap (λ (o : Option File). option_map_or (λ (f : File). f.faults) o 0) (write_at c.args.name.now _ _ old new place c.index_mut-file.ensures.value refl)
    ∙ c.saturating_add-file.ensures
    ∙ ap (λ (o : Option File). one_more (option_map_or (λ (f : File). f.faults) o 0)) (sym (write_was c.args.name.now _ _ old old place c.index_mut-file.ensures.value refl))

pub returns-in-Some-clause-uncounted : goal.returns-in-Some-clause-uncounted
returns-in-Some-clause-uncounted c none =
    let place : IsPlace (is_named c.args.name.now) c.args.self.now.files.items c.in-Some.place = found _ _ _ (rw (← c.deref.ensures.value) (sym c.in-Some.ensures)) in
    let was = write_was c.args.name.now _ _ c.index_mut-file.result.now c.index_mut-file.result.now place c.index_mut-file.ensures.value refl in
    let clash = rw was at none in cc

pub returns-in-Some-clause-others : goal.returns-in-Some-clause-others
returns-in-Some-clause-others c other ne =
    let place : IsPlace (is_named c.args.name.now) c.args.self.now.files.items c.in-Some.place = found _ _ _ (rw (← c.deref.ensures.value) (sym c.in-Some.ensures)) in
    ap (λ (o : Option File). option_map_or (λ (f : File). f.faults) o 0) (write_away c.args.name.now _ _ c.index_mut-file.result.now _ place c.index_mut-file.ensures.value refl other ne)

pub returns-in_default-clause-counted : goal.returns-in_default-clause-counted
returns-in_default-clause-counted c some =
    let none = place_none c.args.name.now c.args.self.now.files.items 0 (rw (← c.deref.ensures.value) (sym c.in_default.ensures)) in
    let clash = rw none at some in cc

pub returns-in-Some-clause-later : goal.returns-in-Some-clause-later
returns-in-Some-clause-later c =
    let place : IsPlace (is_named c.args.name.now) c.args.self.now.files.items c.in-Some.place = found _ _ _ (rw (← c.deref.ensures.value) (sym c.in-Some.ensures)) in
    let old : File = c.index_mut-file.result.now in
    let new : File = record { name = old.name; bytes = old.bytes; faults = c.saturating_add-file.result } in
    let q : Option File → ℕ = λ (o : Option File). option_map_or (λ (f : File). f.faults) o 0 in
    let now = ap q (write_at c.args.name.now _ _ old new place c.index_mut-file.ensures.value refl) in
    let was = ap q (write_was c.args.name.now _ _ old old place c.index_mut-file.ensures.value refl) in
    omega (arith, now, was)
