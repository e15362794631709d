-- Lists that go on.
use Rattle.std.proofs.Common.{◌≡◌, ◌∙◌, ◌≤◌, List, [], ◌++◌, length, sym, ap, arith, append-nil, append_assoc, length-append}

pub longer_none : {X : Type 0} (a : List X) → (more : List X) × (a ≡ a ++ more)
longer_none a = ([], sym (append-nil a))

pub longer_all : {X : Type 0} (a b c : List X) → (more : List X) × (b ≡ a ++ more) → (more : List X) × (c ≡ b ++ more) → (more : List X) × (c ≡ a ++ more)
longer_all {X} a b c (xs, e) (ys, h) = (xs ++ ys, h ∙ ap (λ (l : List X). l ++ ys) e ∙ simp (append_assoc))

pub longer_length : {X : Type 0} (a b : List X) → (more : List X) × (b ≡ a ++ more) → length a ≤ length b
longer_length a b (xs, e) = let n = ap length e in omega (arith, length-append a xs)
