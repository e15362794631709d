-- Sheets that are alike.
use Rattle.std.specs.Prelude.{◌≡◌, ◌↔◌, ⊤, List, [], ◌∷◌}
use Rattle.xs_sheet.specs.declared.unit.Unit.{Unit}
use Rattle.xs_sheet.specs.declared.unit.Unit.TheVariants.{Terminal, Ignorable, Production, Fence}
use Rattle.xs_sheet.specs.declared.sheet.Sheet.{Sheet}
use Rattle.xs_sheet.specs.Outline.{content_of}
use Rattle.xs_pair.specs.declared.ill.Ill.{Ill}
use Rattle.xs_pair.specs.Grammars.{Pair, IsPairOf}
use Rattle.xs_wf.specs.Rules.{IsWell, IsIll}
use Rattle.xs_sheet_laws.specs.Regexes as R

-- They have the same name, line, pattern, normal spelling, sides and texts, and their regexes are alike.
abbrev pub AreAlikeUnits : Unit → Unit → Type 0
AreAlikeUnits (Terminal name pattern regex line) (Terminal name' pattern' regex' line') =
    (name ≡ name') × (pattern ≡ pattern') × R.AreAlike regex regex' × (line ≡ line')
AreAlikeUnits (Ignorable name pattern regex normal line) (Ignorable name' pattern' regex' normal' line') =
    (name ≡ name') × (pattern ≡ pattern') × R.AreAlike regex regex' × (normal ≡ normal') × (line ≡ line')
AreAlikeUnits (Production name left right line) (Production name' left' right' line') =
    (name ≡ name') × (left ≡ left') × (content_of right ≡ content_of right') × (line ≡ line')
AreAlikeUnits (Fence left right line) (Fence left' right' line') = (left ≡ left') × (right ≡ right') × (line ≡ line')
AreAlikeUnits u v = ⊥

-- the same, one by one
abbrev pub AllAlike : List Unit → List Unit → Type 0
AllAlike [] [] = ⊤
AllAlike (u ∷ us) (v ∷ vs) = AreAlikeUnits u v × AllAlike us vs
AllAlike us vs = ⊥

-- they have the same version, start and line of the start, and their units are alike
pub record AreAlike (s t : Sheet) : Type 0 where
  pub version : s.version ≡ t.version
  pub start : s.start ≡ t.start
  pub start_line : s.start_line ≡ t.start_line
  pub units : AllAlike s.units t.units

-- they are well formed alike, the same rule fails first at the same line, and they have the same pairs of grammars
pub record MeanTheSame (s t : Sheet) : Type 0 where
  pub well : IsWell s ↔ IsWell t
  pub ill : (ill : Ill) → IsIll s ill ↔ IsIll t ill
  pub pairs : (p : Pair) → IsPairOf s p ↔ IsPairOf t p
