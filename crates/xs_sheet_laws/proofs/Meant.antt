-- Pairs of grammars of the same bytes.
use Rattle.xs_sheet_laws.specs.Laws.{OnePairOfBytes, AlikePairsMeanTheSame}
use Rattle.xs_sheet_laws.proofs.Alike.{mean_the_same, checked_alike}
use Rattle.xs_sheet_laws.proofs.Sheets.{one_sheet_lem}
use Rattle.xs_sheet_laws.proofs.Pairs.{pair_kept, one_pair_lem}

pub one_pair_of_bytes_lem : OnePairOfBytes
one_pair_of_bytes_lem bytes s t p q a b one two = one_pair_lem s p q one (pair_kept t s q (one_sheet_lem bytes t s b a) two)

pub alike_pairs_lem : AlikePairsMeanTheSame
alike_pairs_lem p q alike = record {
  names = alike.names;
  text = mean_the_same p.text q.text alike.text;
  xml = mean_the_same p.xml q.xml alike.xml;
  checked = checked_alike p.text p.xml q.text q.xml alike.text alike.xml;
}
