-- The check sees weights and suspects alone.
use Rattle.std.proofs.Common.{◌≡◌, ℕ, ◌<◌, length, inl, inr, subst, sym}
use Rattle.xs_class.specs.declared.side.Side.TheVariants.{Text, Xml}
use Rattle.xs_gram.specs.Grammar.{Grammar}
use Rattle.xs_check_laws.specs.Freedom.{HasNoVertical, HasNoHorizontal}
use Rattle.xs_check_laws.specs.Acceptance.{IsLightRule, IsLight, HasNoSuspect, IsAccepted, IsHeaviness, IsFirstHeavy, IsFirstVertical, IsFirstHorizontal, Suspect, vertical, horizontal, Shows}
use Rattle.xs_sheet_laws.specs.Meanings.{HaveSameSuspects}

light_rule : (g h : Grammar) → HaveSameSuspects g h → (p : ℕ) → IsLightRule g p → IsLightRule h p
light_rule g h same p (w, weighs, few) = (w, (same.weighs p w).0 weighs, few)

-- one grammar after another with as many rules
pub record SeesTheSame (g h : Grammar) : Type 0 where
  pub count : length g.rules ≡ length h.rules
  pub same : HaveSameSuspects g h

light : (g h : Grammar) → SeesTheSame g h → IsLight g → IsLight h
light g h sees all p lt = light_rule g h sees.same p (all p (subst (λ (n : ℕ). p < n) (sym sees.count) lt))

no_vertical : (g h : Grammar) → SeesTheSame g h → HasNoVertical g → HasNoVertical h
no_vertical g h sees none p q w v = none p q w ((sees.same.vertical p q w).1 v)

no_horizontal : (g h : Grammar) → SeesTheSame g h → HasNoHorizontal g → HasNoHorizontal h
no_horizontal g h sees none p c x a y v = none p c x a y ((sees.same.horizontal p c x a y).1 v)

no_suspect : (g h : Grammar) → SeesTheSame g h → HasNoSuspect g → HasNoSuspect h
no_suspect g h sees none = (no_vertical g h sees none.0, no_horizontal g h sees none.1)

pub accepted : (g h g' h' : Grammar) → SeesTheSame g g' → SeesTheSame h h' → IsAccepted g h → IsAccepted g' h'
accepted g h g' h' text xml a = record {
  light_text = light g g' text a.light_text;
  light_xml = light h h' xml a.light_xml;
  clear_text = no_suspect g g' text a.clear_text;
  clear_xml = no_suspect h h' xml a.clear_xml;
}

heaviness : (g h : Grammar) → SeesTheSame g h → (w : ℕ) → IsHeaviness g w → IsHeaviness h w
heaviness g h sees w (p, at) = (
  p,
  record {
    rule = subst (λ (n : ℕ). p < n) sees.count at.rule;
    weighs = (sees.same.weighs p w).0 at.weighs;
    heavy = at.heavy;
    before = λ q lt. light_rule g h sees.same q (at.before q lt);
  },
)

pub heavy : (g h g' h' : Grammar) → SeesTheSame g g' → SeesTheSame h h' → (w : ℕ) → IsFirstHeavy g h w → IsFirstHeavy g' h' w
heavy g h g' h' text xml w (inl a) = inl (heaviness g g' text w a)
heavy g h g' h' text xml w (inr (a, b)) = inr (light g g' text a, heaviness h h' xml w b)

first_vertical : (g h : Grammar) → SeesTheSame g h → (p q : ℕ) → IsFirstVertical g p q → IsFirstVertical h p q
first_vertical g h sees p q first = record {
  word = first.word;
  is = (sees.same.vertical p q first.word).0 first.is;
  none_before = λ r s w v before. first.none_before r s w ((sees.same.vertical r s w).1 v) before;
}

first_horizontal : (g h : Grammar) → SeesTheSame g h → (p c : ℕ) → IsFirstHorizontal g p c → IsFirstHorizontal h p c
first_horizontal g h sees p c first = record {
  front = first.front;
  middle = first.middle;
  rest = first.rest;
  is = (sees.same.horizontal p c first.front first.middle first.rest).0 first.is;
  none_before = λ r d x a y v before. first.none_before r d x a y ((sees.same.horizontal r d x a y).1 v) before;
}

pub shows : (g h g' h' : Grammar) → SeesTheSame g g' → SeesTheSame h h' → (suspect : Suspect) → Shows g h suspect → Shows g' h' suspect
shows g h g' h' text xml (vertical Text p q w) (first, is) = (first_vertical g g' text p q first, (text.same.vertical p q w).0 is)
shows g h g' h' text xml (vertical Xml p q w) ((clear, first), is) = ((no_suspect g g' text clear, first_vertical h h' xml p q first), (xml.same.vertical p q w).0 is)
shows g h g' h' text xml (horizontal Text p c x a y) ((clear, first), is) = ((no_vertical g g' text clear, first_horizontal g g' text p c first), (text.same.horizontal p c x a y).0 is)
shows g h g' h' text xml (horizontal Xml p c x a y) ((clear, none, first), is) = ((no_suspect g g' text clear, no_vertical h h' xml none, first_horizontal h h' xml p c first), (xml.same.horizontal p c x a y).0 is)
