use Rattle.std.proofs.Common.{◌≡◌, ◌≢◌, List, ℕ, None, refl, arith, sym, ap, encode_utf8_all}
use Rattle.std.specs.Option.{option_map, option_map_or}
use Rattle.std.specs.declared.option.Option.{Option}
use Rattle.xs_io.specs.declared.folder.File.{File}
use Rattle.xs_io.proofs.Folders.{IsPlace, found, found_within, place_none, write_at, write_away, write_keeps, push_at, push_away, push_keeps}
use Rattle.xs_io.specs.Folder.{is_named, lookup}
use Rattle.xs_io.proofs.folder.Folder.put.Goals as goal

pub index_mut-requires : goal.index_mut-requires
index_mut-requires c = let within = found_within c.as_str.result.now c.deref.result.now c.in-Some.place (sym c.in-Some.ensures) in omega (arith, within)

pub returns-in-Some-clause-ok : goal.returns-in-Some-clause-ok
returns-in-Some-clause-ok c =
    let name = encode_utf8_all c.args.name in
    let old : File = c.index_mut.result.now in
    let new : File = record { name = old.name; bytes = c.args.bytes; faults = old.faults } in
    let place : IsPlace (is_named name) c.args.self.now.files.items c.in-Some.place = found _ _ _ (rw (← c.deref.ensures.value, ← c.as_str.ensures.spelled) (sym c.in-Some.ensures)) in
    record {
      here = ap (option_map (λ (f : File). f.bytes)) (write_at name _ _ old new place c.index_mut.ensures.value refl);
      others = λ (other : List ℕ) (ne : other ≢ name). ap (option_map (λ (f : File). f.bytes)) (write_away name _ _ old new place c.index_mut.ensures.value refl other ne);
    }

pub returns-in-Some-clause-faults : goal.returns-in-Some-clause-faults
returns-in-Some-clause-faults c other =
    let name = encode_utf8_all c.args.name in
    let old : File = c.index_mut.result.now in
    let new : File = record { name = old.name; bytes = c.args.bytes; faults = old.faults } in
    let place : IsPlace (is_named name) c.args.self.now.files.items c.in-Some.place = found _ _ _ (rw (← c.deref.ensures.value, ← c.as_str.ensures.spelled) (sym c.in-Some.ensures)) in
    write_keeps name _ _ old new place c.index_mut.ensures.value refl (λ (o : Option File). option_map_or (λ (f : File). f.faults) o 0) refl other

pub returns-in_ok-push-in-None-clause-ok : goal.returns-in_ok-push-in-None-clause-ok
returns-in_ok-push-in-None-clause-ok c =
    let name = encode_utf8_all c.args.name in
    let new : File = record { name = c.args.name; bytes = c.args.bytes; faults = 0 } in
    let none : lookup c.args.self.now.files.items name ≡ None = place_none name _ 0 (rw (← c.deref.ensures.value, ← c.as_str.ensures.spelled) (sym c.in-None.ensures)) in
    record {
      here = rw c.in_ok-push-in-None.ensures.items (ap (option_map (λ (f : File). f.bytes)) (push_at name _ new none refl));
      others = λ (other : List ℕ) (ne : other ≢ name). rw c.in_ok-push-in-None.ensures.items (ap (option_map (λ (f : File). f.bytes)) (push_away name _ new none refl other ne));
    }

pub returns-in_ok-push-in-None-clause-faults : goal.returns-in_ok-push-in-None-clause-faults
returns-in_ok-push-in-None-clause-faults c other =
    let name = encode_utf8_all c.args.name in
    let new : File = record { name = c.args.name; bytes = c.args.bytes; faults = 0 } in
    let none : lookup c.args.self.now.files.items name ≡ None = place_none name _ 0 (rw (← c.deref.ensures.value, ← c.as_str.ensures.spelled) (sym c.in-None.ensures)) in
    rw c.in_ok-push-in-None.ensures.items (push_keeps name _ new none refl (λ (o : Option File). option_map_or (λ (f : File). f.faults) o 0) refl other)
