use Rattle.xs_check_laws.proofs.Unique.{no_suspect_is_unique_at, no_suspect_is_unique}
use Rattle.xs_check_laws.proofs.laws.no_suspect_is_unique.Goals as goal

pub returns-clause-at : goal.returns-clause-at
returns-clause-at c = no_suspect_is_unique_at

pub returns-clause-start : goal.returns-clause-start
returns-clause-start c = no_suspect_is_unique
