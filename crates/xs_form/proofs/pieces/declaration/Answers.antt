use Rattle.std.proofs.Common.{◌≡◌, Bool, true, false, map, length, List, ℕ, Some, None, if◌then◌else◌, sym, ◌∙◌, ap, subst}
use Rattle.std.specs.declared.option.Option.{Option}
use Rattle.std.specs.Option.{option_map}
use Rattle.xs_xml_laws.specs.Scan.{attrs_at, declaration_attrs}
use Rattle.xs_form.specs.Attributes.{shown}
use Rattle.xs_form.specs.Seen.{Seen, found, declared, held_settings}
use Rattle.xs_form.proofs.SettingLaws.{declaration_is}
use Rattle.xs_form.proofs.pieces.declaration.Goals as goal

pub returns-then-not-are_settings : goal.returns-then-not-are_settings
returns-then-not-are_settings c =
    let list = map shown c.in_ok-list.list.items in
    let test : held_settings list ≡ false = ap (λ x. held_settings (map shown x)) (sym c.deref.ensures.value) ∙ sym c.if-not-are_settings.ensures in
    let is = declaration_is c.args.text.now list c.in_ok-list.more.now c.white_run.result.0.now c.white_run.result.1.now (Some c.in-Some.rest.now) c.in_ok-list.ensures.kept c.in_ok-list.ensures.left c.in_ok-list.ensures.are c.white_run.ensures c.in-Some.ensures in
    subst (λ (t : Bool). if◌then◌else◌ {A = Option (Seen × List ℕ)} t (Some (declared, c.in-Some.rest.now)) None ≡ option_map found (declaration_attrs (attrs_at (length c.args.text.now) c.args.text.now))) test is

pub returns : goal.returns
returns c =
    let list = map shown c.in_ok-list.list.items in
    let test : held_settings list ≡ true = ap (λ x. held_settings (map shown x)) (sym c.deref.ensures.value) ∙ sym c.if-not-are_settings.ensures in
    let is = declaration_is c.args.text.now list c.in_ok-list.more.now c.white_run.result.0.now c.white_run.result.1.now (Some c.in-Some.rest.now) c.in_ok-list.ensures.kept c.in_ok-list.ensures.left c.in_ok-list.ensures.are c.white_run.ensures c.in-Some.ensures in
    subst (λ (t : Bool). if◌then◌else◌ {A = Option (Seen × List ℕ)} t (Some (declared, c.in-Some.rest.now)) None ≡ option_map found (declaration_attrs (attrs_at (length c.args.text.now) c.args.text.now))) test is
