-- The classes of a regular expression, from left to right.
use Rattle.std.proofs.Common.{◌≡◌, ◌∙◌, ℕ, zero, suc, ◌+◌, ◌*◌, ◌<◌, ◌≤◌, List, ◌++◌, length, slice_get, refl, sym, ap, subst, inl, inr, arith, length-append, Ok, Err}
use Rattle.std.specs.Option.{IsSomeAnd}
use Rattle.std.specs.Result.{IfOk}
use Rattle.std.specs.declared.result.Result.{Result}
use Rattle.xs_class.specs.Classes.{Has}
use Rattle.xs_regex.specs.declared.position.Position.{Position}
use Rattle.xs_regex.specs.declared.regex.Regex.{Regex}
use Rattle.xs_regex.specs.declared.regex.Regex.TheVariants.{Empty, Set, Then', Or', Star', Times'}
use Rattle.xs_regex.specs.Automaton.{ClassesHaveMembers}
use Rattle.xs_regex.specs.Parts.{IsAutomaton}
use Rattle.xs_regex.specs.Size.{copies, times, size, sets, HasMembers}
use Rattle.xs_regex.proofs.Rows.{at_left, at_right, split_below}
use Rattle.xs_regex.proofs.Words.{length-times}

-- what holds of each Ok of a result
pub ok_weaker : {T E : Type 0} (r : Result T E) (P Q : T → Type 0) → ((x : T) → P x → Q x) → IfOk r P → IfOk r Q
ok_weaker (Ok x) P Q f h = f x h
ok_weaker (Err e) P Q f h = h

pub length-sets : (r : Regex) → length (sets r) ≡ size r
length-sets Empty = refl
length-sets (Set class) = refl
length-sets (Then' p a q b) = length-append (sets a) (sets b) ∙ omega (arith, length-sets a, length-sets b)
length-sets (Or' p a q b) = length-append (sets a) (sets b) ∙ omega (arith, length-sets a, length-sets b)
length-sets (Star' p a) = length-sets a
length-sets (Times' p a least most) = length-times (copies least most) (sets a) ∙ ap (λ n. copies least most * n) (length-sets a)

pub size_is : (r : Regex) (Word : List ℕ → Type 0) (Sure : Type 0) (p : Position) → IsAutomaton Word (sets r) Sure p → length p.classes ≡ size r
size_is r Word Sure p a = ap (λ (c : List (List (ℕ × ℕ))). length c) a.classes_are ∙ length-sets r

pub both_small : (a b : Regex) (V W : List ℕ → Type 0) (S T : Type 0) (p q : Position) → size a + size b ≤ 512 → IsAutomaton V (sets a) S p → IsAutomaton W (sets b) T q → length p.classes + length q.classes ≤ 512
both_small a b V W S T p q small x y = omega (arith, size_is a V S p x, size_is b W T q y)

pub copies_small : (a : Regex) (n : ℕ) (Word : List ℕ → Type 0) (Sure : Type 0) (p : Position) → n * size a ≤ 512 → IsAutomaton Word (sets a) Sure p → n * length p.classes ≤ 512
copies_small a n Word Sure p small x = let e : length p.classes ≡ size a = size_is a Word Sure p x in rw e small

-- each class of the list has a member
abbrev AllHaveMembers : List (List (ℕ × ℕ)) → Type 0
AllHaveMembers classes = (k : ℕ) → k < length classes → (s : ℕ) × IsSomeAnd (slice_get classes k) (λ class. Has class s)

members_append : (xs ys : List (List (ℕ × ℕ))) → AllHaveMembers xs → AllHaveMembers ys → AllHaveMembers (xs ++ ys)
members_append xs ys a b k l = elim (split_below k (length xs)) [
  | inl lt ↦ let h = a k lt in (h.0, at_left (λ class. Has class h.0) xs ys k h.1)
  | inr m ↦ let h = b m.0 (omega (arith, m.1, length-append xs ys)) in (h.0, subst (λ x. IsSomeAnd (slice_get (xs ++ ys) x) (λ class. Has class h.0)) (sym m.1) (at_right (λ class. Has class h.0) (length xs) xs ys m.0 refl h.1))
]

members_times : (n : ℕ) (xs : List (List (ℕ × ℕ))) → AllHaveMembers xs → AllHaveMembers (times n xs)
members_times zero xs a = λ k l. absurd (omega arith)
members_times (suc n) xs a = members_append xs (times n xs) a (members_times n xs a)

pub sets_members : (r : Regex) → HasMembers r → AllHaveMembers (sets r)
sets_members Empty h = λ k l. absurd (omega arith)
sets_members (Set class) h = λ k l. let e : k ≡ 0 = omega arith in (h.0, rw e h.1)
sets_members (Then' p a q b) h = members_append (sets a) (sets b) (sets_members a h.0) (sets_members b h.1)
sets_members (Or' p a q b) h = members_append (sets a) (sets b) (sets_members a h.0) (sets_members b h.1)
sets_members (Star' p a) h = sets_members a h
sets_members (Times' p a least most) h = members_times (copies least most) (sets a) (sets_members a h)

pub members_are : (r : Regex) (Word : List ℕ → Type 0) (Sure : Type 0) (p : Position) → IsAutomaton Word (sets r) Sure p → HasMembers r → ClassesHaveMembers p
members_are r Word Sure p a h = subst (λ c. AllHaveMembers c) (sym a.classes_are) (sets_members r h)
