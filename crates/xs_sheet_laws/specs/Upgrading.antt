-- The laws of upgrading: well formed stays well formed, derivations stay, and accepted stays accepted.
use Rattle.std.specs.Prelude.{◌≡◌}
use Rattle.xs_sheet.specs.declared.sheet.Sheet.{Sheet}
use Rattle.xs_sheet.specs.Lines.{IsReadable}
use Rattle.xs_gram.specs.Grammar.{Grammar}
use Rattle.xs_check_laws.specs.Acceptance.{IsAccepted, IsLight}
use Rattle.xs_pair.specs.Grammars.{Pair, IsPairOf}
use Rattle.xs_pair.specs.Sound.{IsSoundPair}
use Rattle.xs_pair.specs.Upgrades.{IsUpgrade}
use Rattle.xs_wf.specs.Rules.{IsWell}
use Rattle.xs_sheet_laws.specs.Meanings.{HaveSameDerivations}

-- t is the upgrade of a well-formed sheet s that, lines aside, some bytes have
pub record Upgrades (s t : Sheet) : Type 0 where
  pub readable : IsReadable s
  pub well : IsWell s
  pub upgrade : IsUpgrade s t

-- the upgrade of a well-formed sheet is well formed
abbrev pub UpgradeIsWell : Type 0
UpgradeIsWell = (s t : Sheet) → Upgrades s t → IsWell t

-- the grammars of a side, before and after, have the same flat items, and so the same derivations
pub record HaveSameItems (g h : Grammar) : Type 0 where
  pub rules : g.rules ≡ h.rules
  pub derivations : HaveSameDerivations g h

-- the same of both sides
pub record KeepDerivations (p q : Pair) : Type 0 where
  pub text : HaveSameItems p.text q.text
  pub xml : HaveSameItems p.xml q.xml

-- the grammars of a sheet and those of its upgrade have the same derivations
abbrev pub UpgradeKeepsDerivations : Type 0
UpgradeKeepsDerivations = (s t : Sheet) → Upgrades s t → (p q : Pair) → IsPairOf s p → IsPairOf t q → KeepDerivations p q

-- where a sheet is accepted, which is asked of sound grammars, its upgrade is, unless a rule of it is too heavy
abbrev pub UpgradeStaysAccepted : Type 0
UpgradeStaysAccepted =
    (s t : Sheet) → Upgrades s t → (p q : Pair) → IsPairOf s p → IsPairOf t q → IsSoundPair p
    → IsAccepted p.text p.xml → IsLight q.text → IsLight q.xml → IsAccepted q.text q.xml
