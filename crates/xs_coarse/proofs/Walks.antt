-- Walks over lists that visit pairs: what was found for each element so far.
use Rattle.std.proofs.Common.{◌≡◌, ℕ, ◌+◌, ◌<◌, ◌≤◌, List, length, get_or, take, nat_eq}
use Rattle.std.specs.Bool.{then_some}
use Rattle.std.specs.Prelude.{Option, Some, None}
use Rattle.std.specs.List.{All}
use Rattle.std.proofs.lemmas.Bool.{eq-eqb}
use Rattle.std.proofs.lemmas.List.Elements.{All-nil, All-weaker}
use Rattle.xs_coarse.specs.declared.arc.Arc.{Arc}
use Rattle.xs_coarse.specs.Coarse.{Table, may_meet}
use Rattle.xs_coarse.specs.declared.pair.Pair.{Pair}
use Rattle.xs_coarse.specs.declared.found.Found.{Found}
use Rattle.xs_coarse.specs.Arcs.{HasFound, HasTarget, HasGiven, HasAllGiven, Joins}
use Rattle.xs_coarse.specs.Found.{IsMore, Fits, pair}
use Rattle.xs_coarse.proofs.GrowthLemmas.{more_same, more_then, more_found, each_next, each_all}

-- more was found, and this holds of each element before a place
pub record Walked {X : Type 0} (P : Found → X → Type 0) (xs : List X) (old : Found) (i : ℕ) (now : Found) : Type 0 where
  pub more : IsMore old now
  pub there : All (P now) (take i xs)

pub walk_none : {X : Type 0} (P : Found → X → Type 0) (xs : List X) (f : Found) → Fits f → Walked P xs f 0 f
walk_none P xs f fits = record { more = more_same f fits; there = All-nil (P f) }

-- what holds of an element and stays when more is found, and holds of the next one, holds of one element more
pub walk_more : {X : Type 0} {P : Found → X → Type 0} {xs : List X} {old f : Found} {i : ℕ} (d : X) (g : Found) → ((x : X) → P f x → P g x) → Walked P xs old i f → i < length xs → IsMore f g → P g (get_or xs i d) → Walked P xs old (i + 1) g
walk_more {X} {P} {xs} {old} {f} {i} d g stays walked low more here = record {
  more = more_then walked.more more;
  there = each_next (P f) (P g) xs i d low stays walked.there here;
}

pub walk_all : {X : Type 0} {P : Found → X → Type 0} {xs : List X} {old f : Found} {i : ℕ} → Walked P xs old i f → length xs ≤ i → All (P f) xs
walk_all {X} {P} {xs} {old} {f} {i} walked high = each_all (P f) xs i high walked.there

target_stays : {f g : Found} (o : Option Pair) → IsMore f g → HasTarget f o → HasTarget g o
target_stays (Some p) more there = more_found more p.first p.second there
target_stays None more there = tt

pub given_stays : {X : Type 0} {Gives : X → Option Pair → Type 0} {f g : Found} {x : X} → IsMore f g → HasGiven Gives f x → HasGiven Gives g x
given_stays more h = record { target = h.target; given = h.given; there = target_stays h.target more h.there }

-- the pair that was given for each element is this function of it
pub found_by : {X : Type 0} {Gives : X → Option Pair → Type 0} {f : Found} {xs : List X} (target : X → Option Pair) → HasAllGiven Gives f xs → ((x : X) (o : Option Pair) → Gives x o → o ≡ target x) → All (λ x. HasTarget f (target x)) xs
found_by {X} {Gives} {f} {xs} target all is = All-weaker (HasGiven Gives f) (λ x. HasTarget f (target x)) (λ x h. rw (is x h.target h.given) at h.there) xs all.each

-- a pair that is given where two states are the same was found
pub given_same : (f : Found) (a b : ℕ) (p : Pair) → a ≡ b → HasTarget f (then_some (nat_eq a b) p) → HasFound f p.first p.second
given_same f a b p same there = rw (eq-eqb a b same) at there

-- where an arc that reads nothing leads beside a state of the other net, and where two arcs lead that may
-- read a common word
abbrev pub first_target : ℕ → Arc → Option Pair
first_target b x = then_some (nat_eq x.label 0) (pair x.to b)

abbrev pub second_target : ℕ → Arc → Option Pair
second_target a y = then_some (nat_eq y.label 0) (pair a y.to)

abbrev pub joint_target : Table → Arc → Arc → Option Pair
joint_target t x y = then_some (may_meet t x.label y.label) (pair x.to y.to)

-- the targets for a pair of states whose first one is that of the cut
abbrev pub turn_target : ℕ → Pair → Option Pair
turn_target here p = then_some (nat_eq p.first here) (pair p.second here)

abbrev pub return_target : ℕ → Pair → Option Pair
return_target here p = then_some (nat_eq p.first here) (pair here p.second)

pub joins_by : (t : Table) (f : Found) (x : Arc) (others : List Arc) → All (λ y. HasTarget f (joint_target t x y)) others → All (Joins t f x) others
joins_by t f x others all = All-weaker (λ y. HasTarget f (joint_target t x y)) (Joins t f x) (λ y h low low_too meet. rw meet at h) others all

pub joins_stay : (t : Table) {f g : Found} (others : List Arc) (x : Arc) → IsMore f g → All (Joins t f x) others → All (Joins t g x) others
joins_stay t {f} {g} others x more all = All-weaker (Joins t f x) (Joins t g x) (λ y h a b meet. more_found more x.to y.to (h a b meet)) others all
