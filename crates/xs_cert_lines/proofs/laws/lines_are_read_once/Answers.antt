use Rattle.std.proofs.Common.{rules}
use Rattle.xs_cert_lines.proofs.Feeds.{lines_once, lines_go_on, lines_after, spaced_line, sets_lines, rows_begin, pairs_once}
use Rattle.xs_cert_lines.proofs.laws.lines_are_read_once.Goals as goal

pub returns : goal.returns
returns c = search (rules, lines_once, lines_go_on, lines_after, spaced_line, sets_lines, rows_begin, pairs_once)
