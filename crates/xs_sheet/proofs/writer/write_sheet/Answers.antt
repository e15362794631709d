use Rattle.std.proofs.Common.{◌≡◌, ◌∙◌, ap, encode_utf8_all}
use Rattle.xs_sheet.specs.Layout.{sheet_bytes}
use Rattle.xs_sheet.proofs.Spaced.{sheet_on}
use Rattle.xs_sheet.proofs.ReadBack.{readable_is_read}
use Rattle.xs_sheet.proofs.writer.write_sheet.Goals as goal

written : (c : goal.After-from_vec) → c.from_vec.result ≡ sheet_bytes c.args.sheet.now
written c = c.from_vec.ensures ∙ c.into_bytes.ensures ∙ ap encode_utf8_all (sheet_on c.args.sheet.now c.as_slice.result.now c.new-page.result c.push_head.new.page c.push_units.new.page c.as_slice.ensures c.new-page.ensures c.in_ok-push_head.ensures c.in_ok-push_units.ensures)

pub returns-clause-layout : goal.returns-clause-layout
returns-clause-layout c = written c

pub returns-clause-read_again : goal.returns-clause-read_again
returns-clause-read_again c = readable_is_read c.from_vec.result c.args.sheet.now c.requires (written c)
