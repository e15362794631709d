use Rattle.xs_lex.proofs.TokenLaws.{separated}
use Rattle.xs_lex.proofs.reading.separated.Goals as goal

pub returns : goal.returns
returns c = separated
