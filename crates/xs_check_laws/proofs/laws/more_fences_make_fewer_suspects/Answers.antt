use Rattle.xs_check_laws.proofs.MoreClear.{part_components, make_fewer_loose, make_fewer_vertical, make_no_horizontal, make_no_suspect}
use Rattle.xs_check_laws.proofs.laws.more_fences_make_fewer_suspects.Goals as goal

pub returns-clause-components : goal.returns-clause-components
returns-clause-components c = part_components

pub returns-clause-loose : goal.returns-clause-loose
returns-clause-loose c = make_fewer_loose

pub returns-clause-vertical : goal.returns-clause-vertical
returns-clause-vertical c = make_fewer_vertical

pub returns-clause-horizontal : goal.returns-clause-horizontal
returns-clause-horizontal c = make_no_horizontal

pub returns-clause-neither : goal.returns-clause-neither
returns-clause-neither c = make_no_suspect
