-- The parts of a sequence or of a choice, passed from left to right.
use Rattle.std.proofs.Common.{◌≡◌, ◌∙◌, ℕ, ◌+◌, ◌≤◌, List, ◌++◌, length, refl, sym, ap, inl, inr, arith, length-append}
use Rattle.std.proofs.lemmas.List.{append_assoc}
use Rattle.xs_regex.specs.declared.forms.Join.{Join}
use Rattle.xs_regex.specs.declared.forms.Join.TheVariants.{Turn, Choice}
use Rattle.xs_regex.specs.declared.position.Position.{Position}
use Rattle.xs_regex.specs.declared.regex.Regex.{Regex}
use Rattle.xs_regex.specs.declared.regex.Regex.TheVariants.{Empty, Set, Then', Or', Star', Times'}
use Rattle.xs_regex.specs.Automaton.{Accepts, IsWellFormed, ClassesHaveMembers}
use Rattle.xs_regex.specs.Matches.{InTurn, OfEither, Joined, Matches}
use Rattle.xs_regex.specs.Parts.{CanJoin, IsThen, IsEither, IsTrim, IsAutomaton, AreJoined, AreParts}
use Rattle.xs_regex.specs.Size.{sets, size, IsBounded}
use Rattle.xs_regex.specs.Links.{Shape, turn, choice, joined_shape, shape, HasLinks}
use Rattle.xs_regex.proofs.Built.{restated, itself, then_is, either_is}
use Rattle.xs_regex.proofs.Places.{length-sets, size_is}
use Rattle.xs_regex.proofs.Shapes.{turn_again, choice_again}

-- how many nodes the regex has, which bounds the calls
abbrev pub nodes : Regex → ℕ
nodes Empty = 1
nodes (Set class) = 1
nodes (Then' p a q b) = 1 + nodes a + nodes b
nodes (Or' p a q b) = 1 + nodes a + nodes b
nodes (Star' p a) = 1 + nodes a
nodes (Times' p a least most) = 1 + nodes a

-- the words of what was passed, joined with those of the rest, are those of the whole
pub record IsPassed (Both : (List ℕ → Type 0) → (List ℕ → Type 0) → List ℕ → Type 0) (Word : List ℕ → Type 0) (classes : List (List (ℕ × ℕ))) (Sure : Type 0) (all : Position) (Rest : List ℕ → Type 0) (later : List (List (ℕ × ℕ))) (SureRest : Type 0) : Type 0 where
  pub formed : IsWellFormed all
  pub sound : (w : List ℕ) → Both (Accepts all) Rest w → Word w
  pub complete : (w : List ℕ) → Word w → Both (Accepts all) Rest w
  pub classes_are : all.classes ++ later ≡ classes
  pub sure : Sure → (ClassesHaveMembers all → IsTrim all) × SureRest

-- the positions of what was passed, joined with those of the rest, are those of the whole
abbrev pub ArePassed : (Shape → Shape → Shape) → Shape → Position → Shape → Type 0
ArePassed join whole all rest = (s : Shape) × HasLinks s all × ((p : Position) → HasLinks (join s rest) p → HasLinks whole p)

-- what was passed of a regex joined so with another, and what is left
abbrev pub IsPassedOf : Join → Regex → Regex → Position → Regex → Type 0
IsPassedOf join a b all rest = (nodes rest ≤ nodes b) × IsPassed (Joined join) (Joined join (Matches a) (Matches b)) (sets a ++ sets b) (IsBounded a × IsBounded b) all (Matches rest) (sets rest) (IsBounded rest) × ArePassed (joined_shape join) (joined_shape join (shape a) (shape b)) all (shape rest)

-- what is known of a regex by the two parts that are joined in it
pub record IsMadeOf (join : Join) (r x y : Regex) : Type 0 where
  pub nodes_are : nodes r ≡ 1 + nodes x + nodes y
  pub size_adds : size r ≡ size x + size y
  pub passed : (a b : Regex) (all : Position) → IsPassedOf join a b all r → IsPassed (Joined join) (Joined join (Matches a) (Matches b)) (sets a ++ sets b) (IsBounded a × IsBounded b) all (Joined join (Matches x) (Matches y)) (sets x ++ sets y) (IsBounded x × IsBounded y) × ArePassed (joined_shape join) (joined_shape join (shape a) (shape b)) all (joined_shape join (shape x) (shape y))

pub made_of : (join : Join) (r x y : Regex) → AreParts join r x y → IsMadeOf join r x y
made_of Turn (Then' p v q w) x y e = rw (e.0, e.1) (record { nodes_are = refl; size_adds = refl; passed = λ a b all h. (h.1, h.2) })
made_of Choice (Or' p v q w) x y e = rw (e.0, e.1) (record { nodes_are = refl; size_adds = refl; passed = λ a b all h. (h.1, h.2) })
made_of Turn Empty x y e = absurd e
made_of Turn (Set _) x y e = absurd e
made_of Turn (Or' p v q w) x y e = absurd e
made_of Turn (Star' _ _) x y e = absurd e
made_of Turn (Times' _ _ _ _) x y e = absurd e
made_of Choice Empty x y e = absurd e
made_of Choice (Set _) x y e = absurd e
made_of Choice (Then' p v q w) x y e = absurd e
made_of Choice (Star' _ _) x y e = absurd e
made_of Choice (Times' _ _ _ _) x y e = absurd e

pub passed_size : (a b rest : Regex) (all : Position) → all.classes ++ sets rest ≡ sets a ++ sets b → length all.classes + size rest ≡ size a + size b
passed_size a b rest all e =
    let n : length (all.classes ++ sets rest) ≡ length (sets a ++ sets b) = ap (λ (x : List (List (ℕ × ℕ))). length x) e in
    omega (arith, n, length-append all.classes (sets rest), length-append (sets a) (sets b), length-sets rest, length-sets a, length-sets b)

module _ {V W : List ℕ → Type 0} {c d : List (List (ℕ × ℕ))} {S T : Type 0} where
  turn_begun : {p : Position} → IsAutomaton V c S p → IsPassed InTurn (InTurn V W) (c ++ d) (S × T) p W d T
  turn_begun {p} x = record {
    formed = x.formed;
    sound = λ w h. (h.0, h.1, h.2, x.sound h.0 h.3, h.4);
    complete = λ w h. (h.0, h.1, h.2, x.complete h.0 h.3, h.4);
    classes_are = ap (λ (k : List (List (ℕ × ℕ))). k ++ d) x.classes_are;
    sure = λ s. (x.trim s.0, s.1);
  }

  either_begun : {p : Position} → IsAutomaton V c S p → IsPassed OfEither (OfEither V W) (c ++ d) (S × T) p W d T
  either_begun {p} x = record {
    formed = x.formed;
    sound = λ w h. elim h [ inl a ↦ inl (x.sound w a) | inr b ↦ inr b ];
    complete = λ w h. elim h [ inl a ↦ inl (x.complete w a) | inr b ↦ inr b ];
    classes_are = ap (λ (k : List (List (ℕ × ℕ))). k ++ d) x.classes_are;
    sure = λ s. (x.trim s.0, s.1);
  }

module _ {Word : List ℕ → Type 0} {classes : List (List (ℕ × ℕ))} {Sure : Type 0} {V W : List ℕ → Type 0} {c d : List (List (ℕ × ℕ))} {S T : Type 0} where
  turn_next : {all part next : Position} → IsPassed InTurn Word classes Sure all (InTurn V W) (c ++ d) (S × T) → IsAutomaton V c S part → IsThen all part next → IsPassed InTurn Word classes Sure next W d T
  turn_next {all} {part} {next} h x t =
      let y = then_is (itself all h.formed) x t in
      record {
        formed = y.formed;
        sound = λ w m. let z = y.sound m.0 m.3 in h.sound w (z.0, z.1 ++ m.1, m.2 ∙ ap (λ (v : List ℕ). v ++ m.1) z.2 ∙ append_assoc z.0 z.1 m.1, z.3, (z.1, m.1, refl, z.4, m.4));
        complete = λ w m. let z = h.complete w m in (z.0 ++ z.4.0, z.4.1, z.2 ∙ ap (λ (v : List ℕ). z.0 ++ v) z.4.2 ∙ sym (append_assoc z.0 z.4.0 z.4.1), y.complete (z.0 ++ z.4.0) (z.0, z.4.0, refl, z.3, z.4.3), z.4.4);
        classes_are = ap (λ (k : List (List (ℕ × ℕ))). k ++ d) y.classes_are ∙ append_assoc all.classes c d ∙ h.classes_are;
        sure = λ s. let z = h.sure s in (y.trim (z.0, z.1.0), z.1.1);
      }

  either_next : {all part next : Position} → IsPassed OfEither Word classes Sure all (OfEither V W) (c ++ d) (S × T) → IsAutomaton V c S part → IsEither all part next → IsPassed OfEither Word classes Sure next W d T
  either_next {all} {part} {next} h x t =
      let y = either_is (itself all h.formed) x t in
      record {
        formed = y.formed;
        sound = λ w m. elim m [
          | inl a ↦ elim (y.sound w a) [ inl k ↦ h.sound w (inl k) | inr k ↦ h.sound w (inr (inl k)) ]
          | inr b ↦ h.sound w (inr (inr b))
        ];
        complete = λ w m. elim (h.complete w m) [
          | inl a ↦ inl (y.complete w (inl a))
          | inr b ↦ elim b [ inl k ↦ inl (y.complete w (inr k)) | inr k ↦ inr k ]
        ];
        classes_are = ap (λ (k : List (List (ℕ × ℕ))). k ++ d) y.classes_are ∙ append_assoc all.classes c d ∙ h.classes_are;
        sure = λ s. let z = h.sure s in (y.trim (z.0, z.1.0), z.1.1);
      }

-- the last part
turn_ended : {Word W : List ℕ → Type 0} {classes d : List (List (ℕ × ℕ))} {Sure T : Type 0} {all last r : Position} → IsPassed InTurn Word classes Sure all W d T → IsAutomaton W d T last → IsThen all last r → IsAutomaton Word classes Sure r
turn_ended {all = all} h x t = restated h.sound h.complete h.classes_are h.sure (then_is (itself all h.formed) x t)

either_ended : {Word W : List ℕ → Type 0} {classes d : List (List (ℕ × ℕ))} {Sure T : Type 0} {all last r : Position} → IsPassed OfEither Word classes Sure all W d T → IsAutomaton W d T last → IsEither all last r → IsAutomaton Word classes Sure r
either_ended {all = all} h x t = restated h.sound h.complete h.classes_are h.sure (either_is (itself all h.formed) x t)

-- the positions, at the start, after one part more and at the end
pub places_begun : (join : Shape → Shape → Shape) (s t : Shape) (p : Position) → HasLinks s p → ArePassed join (join s t) p t
places_begun join s t p h = (s, h, λ q k. k)

turn_places : (whole s t : Shape) (all next : Position) → ArePassed turn whole all (turn s t) → ((u : Shape) → HasLinks u all → HasLinks (turn u s) next) → ArePassed turn whole next t
turn_places whole s t all next h f = (turn h.0 s, f h.0 h.1, λ q k. h.2 q (turn_again h.0 s t q k))

choice_places : (whole s t : Shape) (all next : Position) → ArePassed choice whole all (choice s t) → ((u : Shape) → HasLinks u all → HasLinks (choice u s) next) → ArePassed choice whole next t
choice_places whole s t all next h f = (choice h.0 s, f h.0 h.1, λ q k. h.2 q (choice_again h.0 s t q k))

pub places_ended : (join : Shape → Shape → Shape) (whole t : Shape) (all r : Position) → ArePassed join whole all t → ((u : Shape) → HasLinks u all → HasLinks (join u t) r) → HasLinks whole r
places_ended join whole t all r h f = h.2 r (f h.0 h.1)

-- the automaton of a part joins those before it
pub part_joins : (part : Regex) (all next : Position) → IsWellFormed all → length all.classes + size part ≤ 512 → IsAutomaton (Matches part) (sets part) (IsBounded part) next → CanJoin all next
part_joins part all next formed small x = record { front = formed; rest = x.formed; small = omega (arith, small, size_is part _ _ next x) }

-- two regexes that are joined: at the start, after one part more and at the end
pub joined_begun : (join : Join) (a b : Regex) (p : Position) → IsAutomaton (Matches a) (sets a) (IsBounded a) p → HasLinks (shape a) p → IsPassedOf join a b p b
joined_begun Turn a b p x h = (omega arith, turn_begun x, places_begun turn (shape a) (shape b) p h)
joined_begun Choice a b p x h = (omega arith, either_begun x, places_begun choice (shape a) (shape b) p h)

pub joined_next : (join : Join) (a b rest x y : Regex) (all part next : Position) → IsMadeOf join rest x y → IsPassedOf join a b all rest → IsAutomaton (Matches x) (sets x) (IsBounded x) part → AreJoined join all part next → ((u : Shape) → HasLinks u all → HasLinks (joined_shape join u (shape x)) next) → IsPassedOf join a b next y
joined_next Turn a b rest x y all part next is h m t f = let so_far = is.passed a b all h in (omega (arith, is.nodes_are, h.0), turn_next so_far.0 m t, turn_places _ (shape x) (shape y) all next so_far.1 f)
joined_next Choice a b rest x y all part next is h m t f = let so_far = is.passed a b all h in (omega (arith, is.nodes_are, h.0), either_next so_far.0 m t, choice_places _ (shape x) (shape y) all next so_far.1 f)

pub joined_ended : (join : Join) (a b rest : Regex) (all last r : Position) → IsPassedOf join a b all rest → IsAutomaton (Matches rest) (sets rest) (IsBounded rest) last → AreJoined join all last r → IsAutomaton (Joined join (Matches a) (Matches b)) (sets a ++ sets b) (IsBounded a × IsBounded b) r
joined_ended Turn a b rest all last r h x t = turn_ended h.1 x t
joined_ended Choice a b rest all last r h x t = either_ended h.1 x t
