use Rattle.xs_regex.proofs.Meanings.{same_words}
use Rattle.xs_regex.proofs.Patterns.{same_shape, same_sets}
use Rattle.xs_regex.proofs.Readings.{same_reading}
use Rattle.xs_regex.proofs.read.one_regex.Goals as goal

pub returns-clause-tree : goal.returns-clause-tree
returns-clause-tree c = same_reading

pub returns-clause-words : goal.returns-clause-words
returns-clause-words c = same_words

pub returns-clause-shape : goal.returns-clause-shape
returns-clause-shape c = same_shape

pub returns-clause-classes : goal.returns-clause-classes
returns-clause-classes c = same_sets
