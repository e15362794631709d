use Rattle.xs_sheet.proofs.Spaced.{attrs_on}
use Rattle.xs_sheet.proofs.writer.push_attrs.Goals as goal

pub attrs-preserved : goal.attrs-preserved
attrs-preserved c = attrs_on c.args.page.now c.attrs.page c.push_attr.new.page c.args.attrs.now c.attrs.attr-index c.attr-item.result c.attrs-test.true c.attr-item.is c.attrs.invariant c.in_ok-push_attr.ensures
