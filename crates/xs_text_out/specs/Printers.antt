-- What is made once of a grammar, to print trees by.
use Rattle.xs_gram.specs.Grammar.{Grammar}
use Rattle.xs_text_out.specs.declared.printing.Printer.{Printer}
use Rattle.xs_text_out.specs.Pieces.{ArePieces}
use Rattle.xs_text_out.specs.Shares.{AreShares}

pub record IsPrinterOf (g : Grammar) (p : Printer) : Type 0 where
  pub shares : AreShares g p.shares
  pub pieces : ArePieces g p.pieces
