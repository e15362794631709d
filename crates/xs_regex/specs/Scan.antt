-- The reader of patterns, as a function: what stands at the front, and what is left after it. The first
-- argument of a function that calls itself bounds its steps.
use Rattle.std.specs.Prelude.{ℕ, zero, suc, Bool, true, ◌||◌, ◌==◌, List, [], ◌∷◌, None, Some, if◌then◌else◌}
use Rattle.std.specs.declared.option.Option.{Option}
use Rattle.xs_regex.specs.Characters.{Sort, set_at, counts_at}
use Rattle.xs_regex.specs.Pattern.{Tree, nothing, class, both, either, any, times}

abbrev pub stops : List ℕ → Bool
stops [] = true
stops (c ∷ cs) = c == 124 || c == 41

-- what stands after a bar
abbrev pub after_bar : List ℕ → Option (List ℕ)
after_bar [] = None
after_bar (c ∷ cs) = if c == 124 then Some cs else None

-- a count after a tree
abbrev pub braced : Tree → Option ((ℕ × Option ℕ) × List ℕ) → Option (Tree × List ℕ)
braced t None = None
braced t (Some ((least, most), left)) = Some (times t least most, left)

abbrev pub count_after : Tree → List ℕ → Option (Tree × List ℕ)
count_after t [] = Some (t, [])
count_after t (c ∷ cs) =
    if c == 42 then Some (any t, cs)
    else (if c == 43 then Some (times t 1 None, cs)
    else (if c == 63 then Some (times t 0 (Some 1), cs)
    else (if c == 123 then braced t (counts_at cs) else Some (t, c ∷ cs))))

abbrev pub counted : Option (Tree × List ℕ) → Option (Tree × List ℕ)
counted None = None
counted (Some (t, left)) = count_after t left

abbrev pub class_of : Option (Sort × List ℕ) → Option (Tree × List ℕ)
class_of None = None
class_of (Some (s, left)) = Some (class s, left)

-- after a regex, its closing parenthesis
abbrev pub closed : Option (Tree × List ℕ) → Option (Tree × List ℕ)
closed None = None
closed (Some (t, [])) = None
closed (Some (t, c ∷ cs)) = if c == 41 then Some (t, cs) else None

abbrev pub with_tree : (Tree → Tree) → Option (Tree × List ℕ) → Option (Tree × List ℕ)
with_tree whole None = None
with_tree whole (Some (t, left)) = Some (whole t, left)

-- pieces after a piece, and a regex after a bar
abbrev pub pieces_after : Option (Tree × List ℕ) → (List ℕ → Option (Tree × List ℕ)) → Option (Tree × List ℕ)
pieces_after None others = None
pieces_after (Some (t, left)) others = if stops left then Some (t, left) else with_tree (λ u. both t u) (others left)

abbrev pub regex_after : Option (Tree × List ℕ) → (List ℕ → Option (Tree × List ℕ)) → Option (Tree × List ℕ)
regex_after None others = None
regex_after (Some (t, [])) others = Some (t, [])
regex_after (Some (t, c ∷ cs)) others = if c == 124 then with_tree (λ u. either t u) (others cs) else Some (t, c ∷ cs)

abbrev mutual
  pub regex_at : ℕ → ℕ → List ℕ → Option (Tree × List ℕ)
  regex_at zero depth cs = None
  regex_at (suc steps) depth cs = regex_after (if stops cs then Some (nothing, cs) else pieces_at steps depth cs) (λ left. regex_at steps depth left)

  pub pieces_at : ℕ → ℕ → List ℕ → Option (Tree × List ℕ)
  pieces_at zero depth cs = None
  pieces_at (suc steps) depth cs = pieces_after (counted (atom_at steps depth cs)) (λ left. pieces_at steps depth left)

  pub atom_at : ℕ → ℕ → List ℕ → Option (Tree × List ℕ)
  atom_at zero depth cs = None
  atom_at (suc steps) depth [] = None
  atom_at (suc steps) zero (c ∷ cs) = class_of (set_at (c ∷ cs))
  atom_at (suc steps) (suc depth) (c ∷ cs) = if c == 40 then closed (regex_at steps depth cs) else class_of (set_at (c ∷ cs))

abbrev pub sequence_at : ℕ → ℕ → List ℕ → Option (Tree × List ℕ)
sequence_at steps depth cs = if stops cs then Some (nothing, cs) else pieces_at steps depth cs
