use Rattle.std.proofs.Common.{Some, refl, arith, sym, ◌∙◌, ap}
use Rattle.std.specs.Option.{option_map}
use Rattle.xs_io.specs.declared.folder.File.{File}
use Rattle.xs_io.proofs.Folders.{IsPlace, found, found_within, lookup-at, place_none}
use Rattle.xs_io.specs.Folder.{is_named}
use Rattle.xs_io.proofs.folder.Folder.bytes_of.Goals as goal

pub returns-in_err-place : goal.returns-in_err-place
returns-in_err-place c =
    let none = place_none c.args.name.now c.args.self.now.files.items 0 (rw (← c.deref.ensures.value) (sym c.in_err-place.ensures)) in
    rw none (rw c.from_residual.ensures refl)

pub index-requires : goal.index-requires
index-requires c = let within = found_within c.args.name.now c.deref.result.now c.in_ok-place.place (sym c.in_ok-place.ensures) in omega (arith, within)

pub returns : goal.returns
returns c =
    let place : IsPlace (is_named c.args.name.now) c.args.self.now.files.items c.in_ok-place.place = found _ _ _ (rw (← c.deref.ensures.value) (sym c.in_ok-place.ensures)) in
    let file : File = c.index.result.now in
    ap (λ (f : File). Some f.bytes) c.index.ensures ∙ sym (ap (option_map (λ (f : File). f.bytes)) (lookup-at c.args.name.now _ _ file place).1)
