use Rattle.xs_cover.specs.Picks.{ArePicks, HasPassedIn, HaveGrown}
use Rattle.xs_cover.proofs.picks.Picks.pass.Given as goal

abbrev pub invariant-items : goal.invariant-items
invariant-items l = record {
  picks : ArePicks l.two.text l.two.xml l.self;
  grown : HaveGrown l.initial.self l.self;
  past : HasPassedIn l.two.text l.self l.rule l.dot;
}
