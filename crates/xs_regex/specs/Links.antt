-- The positions of a regular expression: at which of them a word may begin and end, and which may
-- follow another. This is Glushkov's construction.
use Rattle.std.specs.Prelude.{◌≡◌, ◌⊎◌, ◌↔◌, ℕ, zero, suc, ◌+◌, Bool, true, false, ◌&&◌, ◌||◌, List, [], ◌∷◌, ◌++◌, length, Contains, None, Some, if◌then◌else◌}
use Rattle.std.specs.declared.option.Option.{Option}
use Rattle.xs_regex.specs.declared.forms.Join.{Join}
use Rattle.xs_regex.specs.declared.forms.Join.TheVariants.{Turn, Choice}
use Rattle.xs_regex.specs.declared.position.Position.{Position}
use Rattle.xs_regex.specs.declared.regex.Regex.{Regex}
use Rattle.xs_regex.specs.declared.regex.Regex.TheVariants.{Empty, Set, Then', Or', Star', Times'}
use Rattle.xs_regex.specs.Automaton.{Leads}
use Rattle.xs_regex.specs.Parts.{shift}

-- A regular expression without its classes, and with its repetitions written out: no position,
-- where the empty word is accepted or not; one position; one part and then another; one or another;
-- once or more; once or not at all.
pub data Shape : Type 0 where
  bare_of : Bool → Shape
  place : Shape
  turn : Shape → Shape → Shape
  choice : Shape → Shape → Shape
  once_or_more : Shape → Shape
  at_most_once : Shape → Shape

-- the shape of two parts that are joined so
abbrev pub joined_shape : Join → Shape → Shape → Shape
joined_shape Turn = turn
joined_shape Choice = choice

-- at least that many copies: of the last there may be more
abbrev pub least_copies : ℕ → Shape → Shape
least_copies zero s = at_most_once (once_or_more s)
least_copies (suc zero) s = once_or_more s
least_copies (suc (suc n)) s = turn s (least_copies (suc n) s)

-- at least that many copies and at most that many, each that is not needed in the one before it
abbrev pub copies_between : ℕ → ℕ → Shape → Shape
copies_between zero zero s = bare_of true
copies_between (suc n) zero s = bare_of false
copies_between zero (suc m) s = at_most_once (turn s (copies_between zero m s))
copies_between (suc n) (suc m) s = turn s (copies_between n m s)

-- as many copies as the counts allow
abbrev pub as_often : ℕ → Option ℕ → Shape → Shape
as_often least None s = least_copies least s
as_often least (Some most) s = copies_between least most s

abbrev pub shape : Regex → Shape
shape Empty = bare_of true
shape (Set class) = place
shape (Then' p a q b) = turn (shape a) (shape b)
shape (Or' p a q b) = choice (shape a) (shape b)
shape (Star' p a) = at_most_once (once_or_more (shape a))
shape (Times' p a least most) = as_often least most (shape a)

-- how many positions there are
abbrev pub places : Shape → ℕ
places (bare_of b) = 0
places place = 1
places (turn a b) = places a + places b
places (choice a b) = places a + places b
places (once_or_more a) = places a
places (at_most_once a) = places a

-- whether the empty word is accepted
abbrev pub is_nullable : Shape → Bool
is_nullable (bare_of b) = b
is_nullable place = false
is_nullable (turn a b) = is_nullable a && is_nullable b
is_nullable (choice a b) = is_nullable a || is_nullable b
is_nullable (once_or_more a) = is_nullable a
is_nullable (at_most_once a) = true

-- the positions at which a word may begin
abbrev pub firsts : Shape → List ℕ
firsts (bare_of b) = []
firsts place = 0 ∷ []
firsts (turn a b) = firsts a ++ (if is_nullable a then shift (places a) (firsts b) else [])
firsts (choice a b) = firsts a ++ shift (places a) (firsts b)
firsts (once_or_more a) = firsts a
firsts (at_most_once a) = firsts a

-- the positions at which a word may end
abbrev pub lasts : Shape → List ℕ
lasts (bare_of b) = []
lasts place = 0 ∷ []
lasts (turn a b) = (if is_nullable b then lasts a else []) ++ shift (places a) (lasts b)
lasts (choice a b) = lasts a ++ shift (places a) (lasts b)
lasts (once_or_more a) = lasts a
lasts (at_most_once a) = lasts a

-- the number is one for which P holds, greater by n
abbrev pub Shifted : ℕ → (ℕ → Type 0) → ℕ → Type 0
Shifted n P k = (m : ℕ) × (k ≡ n + m) × P m

-- position k may follow position j
abbrev pub Follows : Shape → ℕ → ℕ → Type 0
Follows (bare_of b) j k = ⊥
Follows place j k = ⊥
Follows (turn a b) j k = Follows a j k ⊎ (Contains (lasts a) j × Shifted (places a) (λ m. Contains (firsts b) m) k) ⊎ Shifted (places a) (λ i. Shifted (places a) (λ m. Follows b i m) k) j
Follows (choice a b) j k = Follows a j k ⊎ Shifted (places a) (λ i. Shifted (places a) (λ m. Follows b i m) k) j
Follows (once_or_more a) j k = Follows a j k ⊎ (Contains (lasts a) j × Contains (firsts a) k)
Follows (at_most_once a) j k = Follows a j k

-- the automaton has these positions
pub record HasLinks (s : Shape) (p : Position) : Type 0 where
  pub count : length p.classes ≡ places s
  pub nullable : p.nullable ≡ is_nullable s
  pub first : p.first ≡ firsts s
  pub last : p.last ≡ lasts s
  pub follow : (j k : ℕ) → Leads p j k ↔ Follows s j k

-- The automaton's positions are linked as those of the regular expression. This definition is not
-- unfolded by itself, so that no search for another fact about automata goes through it.
unfoldable pub IsGlushkov : Regex → Position → Type 0
IsGlushkov r p = HasLinks (shape r) p

-- two automata with the same classes, at the same positions of which words begin, end and go on
pub record AreLinkedAlike (p q : Position) : Type 0 where
  pub classes : p.classes ≡ q.classes
  pub nullable : p.nullable ≡ q.nullable
  pub first : p.first ≡ q.first
  pub last : p.last ≡ q.last
  pub follow : (j k : ℕ) → Leads p j k ↔ Leads q j k

-- automata of regular expressions of one shape, with the same classes, are linked alike
abbrev pub OneAutomaton : Type 0
OneAutomaton = (a b : Regex) (p q : Position) → shape a ≡ shape b → HasLinks (shape a) p → HasLinks (shape b) q → p.classes ≡ q.classes → AreLinkedAlike p q
