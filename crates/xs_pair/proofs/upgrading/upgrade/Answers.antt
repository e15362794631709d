use Rattle.std.proofs.Common.{List, refl, sym, subst}
use Rattle.xs_sheet.specs.declared.unit.Unit.{Unit}
use Rattle.xs_sheet.specs.declared.sheet.Sheet.{Sheet}
use Rattle.xs_pair.specs.Upgrades.{AreUpgraded, IsUpgrade}
use Rattle.xs_pair.proofs.Gaining.{upgrade_readable}
use Rattle.xs_pair.proofs.upgrading.upgrade.Goals as goal

pub returns-clause-readable : goal.returns-clause-readable
returns-clause-readable c =
    let t : Sheet = record { version = 2; start = c.in_ok-start.start; start_line = c.args.sheet.now.start_line; units = c.from_vec.result } in
    let up : IsUpgrade c.args.sheet.now t = record { version = refl; start = c.in_ok-start.ensures; start_line = refl; units = subst (λ (us : List Unit). AreUpgraded c.args.sheet.now us) (sym c.from_vec.ensures) c.in_ok-units.ensures } in
    upgrade_readable c.requires.0 c.args.sheet.now t c.requires.2 up
