use Rattle.std.proofs.Common.{sym}
use Rattle.xs_cert_lines.proofs.Digits.{last_feed}
use Rattle.xs_cert_lines.proofs.row.has_feed.Goals as goal

pub returns-then-bytes-eq10 : goal.returns-then-bytes-eq10
returns-then-bytes-eq10 c = sym (last_feed c.args.start c.args.bytes.now c.if-start-bytes.true c.if-bytes-eq10.true)
