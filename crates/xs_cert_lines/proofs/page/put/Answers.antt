use Rattle.xs_cert_lines.proofs.Paging.{put_byte}
use Rattle.xs_cert_lines.proofs.page.put.Goals as goal

pub returns : goal.returns
returns c = put_byte c.args.page.now c.args.at c.args.byte c.requires
