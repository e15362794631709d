-- A heavy rule of one side, as of both.
use Rattle.std.proofs.Common.{◌≡◌, inl, inr, subst, Result, Ok, Err, IfErr}
use Rattle.xs_gram.specs.Grammar.{Grammar}
use Rattle.xs_check_laws.specs.Acceptance.{IsLight, IsHeaviness}
use Rattle.xs_searches.specs.declared.fault.CheckFault.{CheckFault}
use Rattle.xs_searches.specs.declared.fault.CheckFault.TheVariants as C
use Rattle.xs_searches.specs.Causes.{IsCause}
use Rattle.xs_pair.specs.Grammars.{Pair}
use Rattle.xs_cert.specs.Reasons.{IsWeighty}

pub text_weighty : (p : Pair) (g : Grammar) (r : Result (Unit {0}) CheckFault) → g ≡ p.text → IfErr r (IsCause g) → IfErr r (IsWeighty p)
text_weighty p g (Ok u) e h = tt
text_weighty p g (Err (C.Heavy weight)) e h = inl (subst (λ (x : Grammar). IsHeaviness x weight) e h)
text_weighty p g (Err C.Memory) e h = tt

pub xml_weighty : (p : Pair) (g : Grammar) (r : Result (Unit {0}) CheckFault) → g ≡ p.xml → IsLight p.text → IfErr r (IsCause g) → IfErr r (IsWeighty p)
xml_weighty p g (Ok u) e light h = tt
xml_weighty p g (Err (C.Heavy weight)) e light h = inr (light, subst (λ (x : Grammar). IsHeaviness x weight) e h)
xml_weighty p g (Err C.Memory) e light h = tt
